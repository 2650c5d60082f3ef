use Rattle.std.proofs.Common.{◌≡◌, ◌*◌, ◌^◌, ◌<◌, length}
use Rattle.ms_task.specs.Control.{exited}
use Rattle.ms_task.specs.Thread.{sequence}
use Rattle.ms_task.specs.refinement.View.{thread_of}
use Rattle.ms_task.proofs.task.Task.resume.Given as goal

abbrev pub invariant-loop-code : goal.invariant-loop-code
invariant-loop-code l = record {
  exits : exited (thread_of l.funcs l.self) ≡ exited (thread_of l.funcs l.fn.self);
  code : l.code ≡ sequence l.funcs l.self.function l.self.sequence;
  small : length l.code * 16 < 2 ^ 63;
}

abbrev pub decreases-loop-code : goal.decreases-loop-code
decreases-loop-code l = length l.self.marks
