use Rattle.std.proofs.Common.{◌≡◌, ◌<◌, ◌≤◌, ◌-◌, ℕ, Some, false, slice_get}
use Rattle.ms_reach.proofs.marked.Marked.any.Given as goal

abbrev pub invariant-loop-at : goal.invariant-loop-at
invariant-loop-at l = record {
  from : l.from ≤ l.at;
  none : (k : ℕ) → l.from ≤ k → k < l.at → k < l.to → slice_get l.self k ≡ Some false;
}

abbrev pub decreases-loop-at : goal.decreases-loop-at
decreases-loop-at l = l.to - l.at
