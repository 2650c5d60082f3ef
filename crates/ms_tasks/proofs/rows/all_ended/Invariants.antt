use Rattle.std.proofs.Common.{◌≡◌, drop}
use Rattle.ms_machine.specs.Crews.{are_ended}
use Rattle.ms_tasks.specs.refinement.Rows.{threads_in}
use Rattle.ms_tasks.proofs.rows.all_ended.Given as goal

abbrev pub invariant-loop-task : goal.invariant-loop-task
invariant-loop-task g l = are_ended (threads_in l.store (drop l.task-index l.tasks)) ≡ are_ended (threads_in l.store l.tasks)
