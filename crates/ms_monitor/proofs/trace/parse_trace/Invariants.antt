-- What the lines so far told, and what is left.
use Rattle.std.proofs.Common.{length}
use Rattle.ms_monitor.proofs.Reading.{GoesOn}
use Rattle.ms_monitor.proofs.trace.parse_trace.Given as goal

abbrev pub invariant-loop-left : goal.invariant-loop-left
invariant-loop-left l = GoesOn l.fn.text l.events.items l.left

abbrev pub decreases-loop-left : goal.decreases-loop-left
decreases-loop-left l = length l.left
