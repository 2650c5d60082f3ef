use Rattle.std.proofs.Common.{◌≡◌, ◌-◌, ◌≤◌, length, take, replicate}
use Rattle.ms_tagged.proofs.lanes.wipe_all.Given as goal

abbrev pub invariant-loop-masks : goal.invariant-loop-masks
invariant-loop-masks l = record {
  within : l.at ≤ length l.masks;
  wiped : take l.at l.masks ≡ replicate l.at 0;
}

abbrev pub decreases-loop-masks : goal.decreases-loop-masks
decreases-loop-masks l = length l.masks - l.at

abbrev pub invariant-loop-rest : goal.invariant-loop-rest
invariant-loop-rest l = take l.rest l.masks ≡ replicate l.rest 0
