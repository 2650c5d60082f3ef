use Rattle.std.proofs.Common.{◌≡◌, ◌++◌, drop, map}
use Rattle.ms_machine.specs.Linked.{start_chain}
use Rattle.ms_machine.specs.Running.{func_thread}
use Rattle.ms_tasks.specs.refinement.Rows.{threads_in}
use Rattle.ms_tasks.proofs.starting.starts_of.Given as goal

abbrev pub invariant-loop-instance : goal.invariant-loop-instance
invariant-loop-instance g l =
    threads_in l.store l.chain.items ++ map (func_thread l.store) (start_chain (drop l.instance-index l.instances)) ≡ map (func_thread l.store) (start_chain l.instances)
