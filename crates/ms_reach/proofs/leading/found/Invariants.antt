use Rattle.std.proofs.Common.{◌≡◌, ◌<◌, ◌≤◌, ◌-◌, ℕ, Some, length, slice_get}
use Rattle.ms_live.specs.declared.gaps.Live.{Live}
use Rattle.ms_reach.proofs.leading.found.Given as goal

abbrev pub invariant-loop-low : goal.invariant-loop-low
invariant-loop-low l = record {
  order : l.low ≤ l.high;
  within : l.high ≤ length l.live;
  lower : (k : ℕ) (s : Live) → slice_get l.live k ≡ Some s → k < l.low → s.id < l.id;
  upper : (k : ℕ) (s : Live) → slice_get l.live k ≡ Some s → l.high ≤ k → l.id < s.id;
}

abbrev pub decreases-loop-low : goal.decreases-loop-low
decreases-loop-low l = l.high - l.low
