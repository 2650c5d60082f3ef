use Rattle.std.proofs.Common.{arith}
use Rattle.ms_live.proofs.tree_gaps.end.Goals as goal

pub join-requires-clause-below : goal.join-requires-clause-below
join-requires-clause-below c =
    let l = c.in-Some.ensures in
    let up = l.1 in
    let w = c.requires.within (omega arith) in
    let enough = c.requires.levels.1 in
    omega (arith, c.from.ensures)
