use Rattle.std.proofs.Common.{◌≡◌, ◌++◌, Some, drop, map}
use Rattle.ms_tasks.specs.refinement.Rows.{threads_in}
use Rattle.ms_tasks.specs.Tasks.{task_address, threads_from}
use Rattle.ms_tasks.proofs.Making.{joined}
use Rattle.ms_tasks.proofs.starting.tasks_of.Given as goal

abbrev pub invariant-loop-named : goal.invariant-loop-named
invariant-loop-named g l = record {
  threads : joined (threads_in l.store l.all.items) (threads_from l.store (drop l.named-index l.tasks) l.named-index) ≡ threads_from l.store l.tasks 0;
  number : l.number ≡ l.named-index;
  addresses : map Some l.addresses.items ++ map (λ t. task_address l.store t.0 t.1) (drop l.named-index l.tasks) ≡ map (λ t. task_address l.store t.0 t.1) l.tasks;
}
