use Rattle.std.proofs.Common.{◌∙◌, ap, arith, length, refl, sym}
use Rattle.ms_machine.specs.Crews.{Input, begun, results}
use Rattle.ms_tasks.proofs.Leaving.{run_leaves}
use Rattle.ms_tasks.specs.refinement.Schedules.{entries_of}
use Rattle.ms_run.specs.Lines.{budget_line, result_lines, trap_line}
use Rattle.ms_run.specs.declared.status.Status.TheVariants.{OutOfMemory, WriteFault}
use Rattle.ms_run.specs.refinement.Counts.{blank}
use Rattle.ms_run.proofs.Stood.{addresses_after}
use Rattle.ms_run.proofs.Ending.{budget_printed, memory_printed, read_fault_printed, results_printed, tasks_are, tasks_stay, trap_printed, write_fault_printed}
use Rattle.ms_run.proofs.execution.run_crew.Goals as goal

pub result_lines-lines-requires : goal.result_lines-lines-requires
result_lines-lines-requires g c =
    let run = c.in-Results.ensures.run in
    let crew = c.args.crew.now.crew in
    c.requires.tasks.0 ∙ sym (tasks_stay (entries_of c.args.schedule.now (length crew.tasks) c.args.budget) crew c.run.new.self.crew run.0 run.1.1)

pub tell_run-requires-clause-tasks : goal.tell_run-requires-clause-tasks
tell_run-requires-clause-tasks g c =
    let run = c.in-Results.ensures.run in
    let crew = c.args.crew.now.crew in
    tasks_are (entries_of c.args.schedule.now (length crew.tasks) c.args.budget) crew c.run.new.self.crew run.0 c.args.tasks c.args.telling.now.reach c.requires.tasks.0 run.1.1 c.requires.reach

pub returns-in-Results-clause-printed : goal.returns-in-Results-clause-printed
returns-in-Results-clause-printed g c =
    let e = c.in-Results.ensures in
    let is_new = c.new-log.ensures ∙ ap blank c.is_some.ensures in
    let crew = c.args.crew.now.crew in
    let leaves = λ (given : Input). run_leaves (entries_of c.args.schedule.now (length crew.tasks) c.args.budget) (begun crew) given in
    let printed = c.tell_run.ensures.printed (result_lines (results c.run.new.self.crew.tasks)) c.result_lines-lines.ensures in
    λ named of.
    results_printed (record { telling = c.args.telling.now; tasks = named }) _ c.run.new.self _ _ _ c.new-log.result _ c.tell_run.result (addresses_after c.args.crew.now c.run.new.self named e.addresses (e.outline tt) of) is_new leaves e.trapped e.input_faults e.out_faults e.run
    printed

pub tell_run-requires-in-Trap-clause-tasks : goal.tell_run-requires-in-Trap-clause-tasks
tell_run-requires-in-Trap-clause-tasks g c =
    let run = c.in-Trap.ensures.run in
    let crew = c.args.crew.now.crew in
    tasks_are (entries_of c.args.schedule.now (length crew.tasks) c.args.budget) crew c.run.new.self.crew run.0 c.args.tasks c.args.telling.now.reach c.requires.tasks.0 run.1.1 c.requires.reach

pub returns-in-Trap-clause-printed : goal.returns-in-Trap-clause-printed
returns-in-Trap-clause-printed g c =
    let e = c.in-Trap.ensures in
    let is_new = c.new-log.ensures ∙ ap blank c.is_some.ensures in
    let crew = c.args.crew.now.crew in
    let leaves = λ (given : Input). run_leaves (entries_of c.args.schedule.now (length crew.tasks) c.args.budget) (begun crew) given in
    let printed = c.tell_run-in-Trap.ensures.printed (trap_line c.in-Trap.kind) c.trap_line-lines.ensures in
    λ named of.
    trap_printed (record { telling = c.args.telling.now; tasks = named }) _ c.run.new.self _ _ _ c.new-log.result _ c.tell_run-in-Trap.result (addresses_after c.args.crew.now c.run.new.self named e.addresses (e.outline tt) of) is_new leaves c.in-Trap.field-0 c.in-Trap.kind e.trapped e.input_faults e.out_faults e.run
    printed

pub tell_run-requires-in-Budget-clause-tasks : goal.tell_run-requires-in-Budget-clause-tasks
tell_run-requires-in-Budget-clause-tasks g c =
    let run = c.in-Budget.ensures.run in
    let crew = c.args.crew.now.crew in
    tasks_are (entries_of c.args.schedule.now (length crew.tasks) c.args.budget) crew c.run.new.self.crew run.0 c.args.tasks c.args.telling.now.reach c.requires.tasks.0 run.1.1 c.requires.reach

pub returns-in-Budget-clause-printed : goal.returns-in-Budget-clause-printed
returns-in-Budget-clause-printed g c =
    let e = c.in-Budget.ensures in
    let is_new = c.new-log.ensures ∙ ap blank c.is_some.ensures in
    let crew = c.args.crew.now.crew in
    let leaves = λ (given : Input). run_leaves (entries_of c.args.schedule.now (length crew.tasks) c.args.budget) (begun crew) given in
    let printed = c.tell_run-in-Budget.ensures.printed budget_line c.budget_line-lines.ensures in
    λ named of.
    budget_printed (record { telling = c.args.telling.now; tasks = named }) _ c.run.new.self _ _ _ c.new-log.result _ c.tell_run-in-Budget.result (addresses_after c.args.crew.now c.run.new.self named e.addresses (e.outline tt) of) is_new leaves e.trapped e.input_faults e.out_faults e.run
    printed

pub returns-in-ReadFault-clause-printed : goal.returns-in-ReadFault-clause-printed
returns-in-ReadFault-clause-printed g c =
    let e = c.in-ReadFault.ensures in
    λ named of.
    read_fault_printed (record { telling = c.args.telling.now; tasks = named }) _ c.run.new.self _ _ _ c.new-log.result _ c.answer.result e.input_faults e.out_faults e.run (refl, refl) (rw c.input_fault_line.ensures at c.answer.ensures)

pub returns-in-WriteFault-clause-printed : goal.returns-in-WriteFault-clause-printed
returns-in-WriteFault-clause-printed g c =
    let e = c.in-WriteFault.ensures in
    λ named of.
    write_fault_printed (record { telling = c.args.telling.now; tasks = named }) _ c.run.new.self _ _ _ c.new-log.result _ WriteFault e.input_faults e.out_faults e.run (refl, refl) (refl, refl)

pub returns-clause-printed : goal.returns-clause-printed
returns-clause-printed g c = λ named of.
    memory_printed (record { telling = c.args.telling.now; tasks = named }) _ c.run.new.self _ _ _ c.new-log.result _ OutOfMemory c.in-Memory.ensures.run (refl, refl) (refl, refl)

pub tell_run-requires-clause-addresses : goal.tell_run-requires-clause-addresses
tell_run-requires-clause-addresses g c =
    let run = c.in-Results.ensures.run in
    let crew = c.args.crew.now.crew in
    let stay = tasks_stay (entries_of c.args.schedule.now (length crew.tasks) c.args.budget) crew c.run.new.self.crew run.0 run.1.1 in
    ap length c.in-Results.ensures.addresses ∙ (c.requires.addresses ∙ sym stay)

pub tell_run-requires-clause-few : goal.tell_run-requires-clause-few
tell_run-requires-clause-few g c =
    let run = c.in-Results.ensures.run in
    let crew = c.args.crew.now.crew in
    let stay = tasks_stay (entries_of c.args.schedule.now (length crew.tasks) c.args.budget) crew c.run.new.self.crew run.0 run.1.1 in
    let count = c.requires.tasks.0 in
    omega (arith, stay, count)

pub tell_run-requires-in-Trap-clause-addresses : goal.tell_run-requires-in-Trap-clause-addresses
tell_run-requires-in-Trap-clause-addresses g c =
    let run = c.in-Trap.ensures.run in
    let crew = c.args.crew.now.crew in
    let stay = tasks_stay (entries_of c.args.schedule.now (length crew.tasks) c.args.budget) crew c.run.new.self.crew run.0 run.1.1 in
    ap length c.in-Trap.ensures.addresses ∙ (c.requires.addresses ∙ sym stay)

pub tell_run-requires-in-Trap-clause-few : goal.tell_run-requires-in-Trap-clause-few
tell_run-requires-in-Trap-clause-few g c =
    let run = c.in-Trap.ensures.run in
    let crew = c.args.crew.now.crew in
    let stay = tasks_stay (entries_of c.args.schedule.now (length crew.tasks) c.args.budget) crew c.run.new.self.crew run.0 run.1.1 in
    let count = c.requires.tasks.0 in
    omega (arith, stay, count)

pub tell_run-requires-in-Budget-clause-addresses : goal.tell_run-requires-in-Budget-clause-addresses
tell_run-requires-in-Budget-clause-addresses g c =
    let run = c.in-Budget.ensures.run in
    let crew = c.args.crew.now.crew in
    let stay = tasks_stay (entries_of c.args.schedule.now (length crew.tasks) c.args.budget) crew c.run.new.self.crew run.0 run.1.1 in
    ap length c.in-Budget.ensures.addresses ∙ (c.requires.addresses ∙ sym stay)

pub tell_run-requires-in-Budget-clause-few : goal.tell_run-requires-in-Budget-clause-few
tell_run-requires-in-Budget-clause-few g c =
    let run = c.in-Budget.ensures.run in
    let crew = c.args.crew.now.crew in
    let stay = tasks_stay (entries_of c.args.schedule.now (length crew.tasks) c.args.budget) crew c.run.new.self.crew run.0 run.1.1 in
    let count = c.requires.tasks.0 in
    omega (arith, stay, count)
