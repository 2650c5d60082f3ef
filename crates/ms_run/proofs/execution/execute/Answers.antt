use Rattle.std.proofs.Common.{refl, subst}
use Rattle.std.specs.Prelude.{Err, length}
use Rattle.ms_machine.specs.Externs.{Fault}
use Rattle.ms_link.specs.refinement.Answers.{DoesLink}
use Rattle.ms_link.specs.declared.fault.LinkFault.{LinkFault}
use Rattle.ms_tasks.specs.refinement.Schedules.{entries_of}
use Rattle.ms_run.specs.Flows.{nothing_printed}
use Rattle.ms_run.specs.Lines.{link_line}
use Rattle.ms_run.proofs.Executed.{linked_printed, unlinked_printed}
use Rattle.ms_run.proofs.execution.execute.Goals as goal

pub returns-in-Ok-clause-printed : goal.returns-in-Ok-clause-printed
returns-in-Ok-clause-printed g c =
    let tasks = c.args.tasks.items in
    linked_printed (record { telling = c.args.telling.now; tasks = tasks }) _ _ _ tasks (entries_of c.args.schedule.now (length tasks) c.args.budget) c.args.modules.items c.args.memory c.in-Ok.store c.in-Ok.ensures.link c.run_store.result c.run_store.ensures.printed

pub returns-in-Err-Refused-clause-printed : goal.returns-in-Err-Refused-clause-printed
returns-in-Err-Refused-clause-printed g c =
    let it = c.in-Err-Refused in
    let tasks = c.args.tasks.items in
    let modules = c.args.modules.items in
    let fault : Fault = record { «module» = it.module; item = it.item; why = it.why } in
    let unlinked = subst (λ (e : LinkFault). DoesLink modules c.args.memory (Err e)) it.field-0-is it.ensures.link in
    unlinked_printed (record { telling = c.args.telling.now; tasks = tasks }) _ _ _ tasks (entries_of c.args.schedule.now (length tasks) c.args.budget) modules c.args.memory fault unlinked (refl, refl, refl, refl)
    c.answer_line.result (refl, refl) (c.answer_line.ensures (link_line fault) c.link_line.ensures)

pub returns-clause-printed : goal.returns-clause-printed
returns-clause-printed g c = nothing_printed (refl, refl, refl, refl) (refl, refl) (refl, refl)
