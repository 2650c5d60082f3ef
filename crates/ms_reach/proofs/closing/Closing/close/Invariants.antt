use Rattle.ms_reach.specs.refinement.Closing.{Advances, rank}
use Rattle.ms_reach.proofs.closing.Closing.close.Given as goal

abbrev pub invariant-loop-range : goal.invariant-loop-range
invariant-loop-range g l = Advances l.segments l.fn.self 0 0 l.self 0 0

abbrev pub decreases-loop-range : goal.decreases-loop-range
decreases-loop-range g l = rank l.self
