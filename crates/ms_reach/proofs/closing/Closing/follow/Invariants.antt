use Rattle.std.proofs.Common.{◌≡◌, ◌<◌, ◌≤◌, ◌-◌, Some, false, slice_get}
use Rattle.ms_reach.specs.refinement.Closing.{Advances}
use Rattle.ms_reach.proofs.closing.Closing.follow.Given as goal

abbrev pub invariant-loop-at : goal.invariant-loop-at
invariant-loop-at g l = record {
  within : l.at ≤ l.range.to;
  free : l.at < l.range.to → slice_get l.self.marks l.at ≡ Some false;
  advances : Advances l.segments l.fn.self l.range.from l.range.to l.self l.at l.range.to;
}

abbrev pub decreases-loop-at : goal.decreases-loop-at
decreases-loop-at g l = l.range.to - l.at
