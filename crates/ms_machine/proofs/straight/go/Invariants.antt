use Rattle.std.proofs.Common.{◌≡◌, ◌≢◌, ◌-◌, ◌*◌, ◌^◌, ◌<◌, ◌≤◌, ◌+◌, [], drop, length}
use Rattle.ms_machine.specs.refinement.StraightLine.{GoesQuietly}
use Rattle.ms_task.specs.Thread.{sequence}
use Rattle.ms_task.specs.refinement.View.{at_next, thread_of}
use Rattle.ms_machine.proofs.straight.go.Given as goal

abbrev pub invariant-loop-left : goal.invariant-loop-left
invariant-loop-left g l = record {
  steps : GoesQuietly l.store (thread_of l.store.funcs l.fn.task) (l.most - l.left) l.store (at_next l.store.funcs l.task l.place);
  left : l.left ≤ l.most;
  going : (at_next l.store.funcs l.task l.place).work ≢ [];
  rest : l.rest ≡ drop l.place (sequence l.store.funcs l.task.function l.task.sequence);
  some : 0 < length l.rest;
  far : (l.place + length l.rest) * 16 < 2 ^ 63;
}

abbrev pub decreases-loop-left : goal.decreases-loop-left
decreases-loop-left g l = l.left
