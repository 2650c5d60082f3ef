use Rattle.std.proofs.Common.{◌∙◌, ◌<◌, ℕ, ap, refl, subst, sym}
use Rattle.ms_tasks.specs.refinement.Making.{Refuses}
use Rattle.ms_tasks.specs.refinement.Schedules.{entries_of}
use Rattle.std.specs.Prelude.{length}
use Rattle.ms_run.specs.Flows.{nothing_printed}
use Rattle.ms_run.specs.Lines.{task_line}
use Rattle.ms_run.proofs.Executed.{crew_length, crew_printed, no_task_printed}
use Rattle.ms_run.proofs.Stood.{addresses_length, crew_addresses}
use Rattle.ms_run.proofs.execution.run_store.Goals as goal

pub run_crew-requires-clause-tasks : goal.run_crew-requires-clause-tasks
run_crew-requires-clause-tasks g c =
    let tasks = c.args.tasks.items in
    let count = ap length c.as_slice.ensures.value in
    (count ∙ sym (crew_length c.args.store tasks c.in-Ok.crew.crew c.in-Ok.ensures.new), subst (λ (n : ℕ). 0 < n) (sym count) c.requires.tasks.0)

pub run_crew-requires-clause-addresses : goal.run_crew-requires-clause-addresses
run_crew-requires-clause-addresses g c =
    let tasks = c.args.tasks.items in
    addresses_length c.args.store tasks c.in-Ok.crew.addresses c.in-Ok.ensures.addresses ∙ sym (crew_length c.args.store tasks c.in-Ok.crew.crew c.in-Ok.ensures.new)

pub returns-in-Ok-clause-printed : goal.returns-in-Ok-clause-printed
returns-in-Ok-clause-printed g c =
    crew_printed (record { telling = c.args.telling.now; tasks = c.args.tasks.items }) _ _ _ c.args.tasks.items c.args.schedule.now c.args.budget c.args.store c.in-Ok.crew.crew c.in-Ok.ensures.new c.run_crew.result
    (c.run_crew.ensures.printed c.args.tasks.items (crew_addresses c.args.store c.args.tasks.items c.in-Ok.crew c.in-Ok.ensures.new c.in-Ok.ensures.addresses))

pub returns-in-Err-Task-clause-printed : goal.returns-in-Err-Task-clause-printed
returns-in-Err-Task-clause-printed g c =
    let number = c.in-Err-Task.number in
    let refuses = subst (Refuses c.args.store c.args.tasks.items) c.in-Err-Task.field-0-is c.in-Err-Task.ensures.new in
    no_task_printed (record { telling = c.args.telling.now; tasks = c.args.tasks.items }) _ _ _ c.args.tasks.items (entries_of c.args.schedule.now (length c.args.tasks.items) c.args.budget) c.args.store number refuses (refl, refl, refl, refl)
    c.answer_line.result (refl, refl) (c.answer_line.ensures (task_line number) c.task_line.ensures)

pub returns-in-Err-Memory-clause-printed : goal.returns-in-Err-Memory-clause-printed
returns-in-Err-Memory-clause-printed g c = nothing_printed (refl, refl, refl, refl) (refl, refl) (refl, refl)
