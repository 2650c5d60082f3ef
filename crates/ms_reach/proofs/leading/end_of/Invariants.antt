use Rattle.std.proofs.Common.{◌≡◌, ◌<◌, ◌≤◌, ◌+◌, ℕ, Some, slice_get}
use Rattle.ms_live.specs.declared.gaps.Live.{Live}
use Rattle.ms_reach.specs.refinement.Leading.{EndBelow}
use Rattle.ms_reach.proofs.leading.end_of.Given as goal

abbrev pub invariant-loop-i : goal.invariant-loop-i
invariant-loop-i l = record {
  covers : (k : ℕ) (s : Live) → slice_get l.live k ≡ Some s → k < l.i → s.base + s.size ≤ l.end;
  least : (n : ℕ) → EndBelow l.live n → l.end ≤ n;
}
