use Rattle.std.proofs.Common.{◌≤◌}
use Rattle.ms_reach.specs.Count.{IsCount}
use Rattle.ms_reach.specs.refinement.Closing.{HasMark}
use Rattle.ms_reach.proofs.Counts.{Up}
use Rattle.ms_reach.proofs.closing.Closing.touched.Given as goal

abbrev pub invariant-loop-i : goal.invariant-loop-i
invariant-loop-i l = record {
  few : l.count ≤ l.i;
  count : IsCount (Up (HasMark l.self.marks l.live) l.i) l.count;
}
