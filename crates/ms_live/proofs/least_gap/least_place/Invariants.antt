use Rattle.std.proofs.Common.{◌≡◌, ◌<◌, ◌^◌, drop}
use Rattle.ms_live.specs.refinement.ByAddress.{passed}
use Rattle.ms_live.proofs.least_gap.least_place.Given as goal

-- The walk along the segments that are left comes to what the whole walk does.
abbrev pub invariant-loop-i : goal.invariant-loop-i
invariant-loop-i l = record {
  near : l.candidate < 2 ^ 34;
  left : passed l.n l.candidate (drop l.i l.placed) ≡ passed l.n 0 l.placed;
}
