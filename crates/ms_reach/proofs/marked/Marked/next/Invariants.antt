use Rattle.std.proofs.Common.{◌≡◌, ◌≤◌, ◌-◌}
use Rattle.ms_reach.specs.refinement.Marking.{AllMarked}
use Rattle.ms_reach.proofs.marked.Marked.next.Given as goal

abbrev pub invariant-loop-at : goal.invariant-loop-at
invariant-loop-at l = record {
  same : l.self ≡ l.fn.self;
  from : l.from ≤ l.at;
  all : AllMarked l.fn.self l.from l.at;
}

abbrev pub decreases-loop-at : goal.decreases-loop-at
decreases-loop-at l = l.to - l.at
