use Rattle.std.proofs.Common.{◌≡◌, ◌+◌, ◌-◌, ◌≤◌, drop, length}
use Rattle.ms_live.specs.refinement.ByAddress.{no_later}
use Rattle.ms_live.proofs.list_gaps.no_later.Given as goal

-- Those that are counted, and those among the rest.
abbrev pub invariant-loop-count : goal.invariant-loop-count
invariant-loop-count l = record {
  within : l.count ≤ length l.placed;
  left : l.count + no_later l.address (drop l.count l.placed) ≡ no_later l.address l.placed;
}

abbrev pub decreases-loop-count : goal.decreases-loop-count
decreases-loop-count l = length l.placed - l.count
