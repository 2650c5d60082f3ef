use Rattle.std.proofs.Common.{◌≡◌, take}
use Rattle.ms_reach.proofs.leading.live_segments.Given as goal

abbrev pub invariant-loop-i : goal.invariant-loop-i
invariant-loop-i g l = l.live.items ≡ take l.i l.segments.live
