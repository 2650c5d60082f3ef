use Rattle.std.proofs.Common.{arith, ap}
use Rattle.ms_gap_tree.specs.refinement.Tree.{half}
use Rattle.ms_monitor.proofs.gaps.split.Goals as goal

pub replace-requires-clause-key : goal.replace-requires-clause-key
replace-requires-clause-key c =
    let up = c.requires.before.up_to in
    let below = c.requires.below (omega arith) in
    omega arith

pub insert-requires-clause-key : goal.insert-requires-clause-key
insert-requires-clause-key c =
    let below = c.requires.below (omega arith) in
    let same = ap half c.replace.ensures.levels in
    omega (arith, c.back-next.ensures)
