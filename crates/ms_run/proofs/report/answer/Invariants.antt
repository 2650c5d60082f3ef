-- The lines that were put, and what is left of the text.
use Rattle.std.proofs.Common.{length}
use Rattle.ms_run.specs.Observed.{reported}
use Rattle.ms_run.proofs.Putting.{IsSoFar}
use Rattle.ms_run.proofs.report.answer.Given as goal

abbrev pub invariant-loop-left : goal.invariant-loop-left
invariant-loop-left g l = IsSoFar l.text l.left (reported g.R.Sink.held g.R.Sink.faults l.initial.report l.report)

abbrev pub decreases-loop-left : goal.decreases-loop-left
decreases-loop-left g l = length l.left
