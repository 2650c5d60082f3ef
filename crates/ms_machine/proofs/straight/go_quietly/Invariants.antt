use Rattle.std.proofs.Common.{◌≢◌, ◌-◌, ◌≤◌, []}
use Rattle.ms_event.specs.refinement.Tally.{LeavesRoom}
use Rattle.ms_machine.specs.refinement.StraightLine.{GoesCounted}
use Rattle.ms_task.specs.refinement.View.{thread_of}
use Rattle.ms_machine.proofs.straight.go_quietly.Given as goal

abbrev pub invariant-loop-left : goal.invariant-loop-left
invariant-loop-left g l = record {
  steps : GoesCounted l.keep l.fn.store (thread_of l.fn.store.funcs l.fn.task) l.fn.tally (l.most - l.left) l.store (thread_of l.store.funcs l.task) l.tally;
  left : l.left ≤ l.most;
  going : (thread_of l.store.funcs l.task).work ≢ [];
  room : LeavesRoom l.left l.tally;
}

abbrev pub decreases-loop-left : goal.decreases-loop-left
decreases-loop-left g l = l.left
