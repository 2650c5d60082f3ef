use Rattle.std.proofs.Common.{arith}
use Rattle.ms_monitor.proofs.gaps.join.Goals as goal

pub join-requires-clause-below : goal.join-requires-clause-below
join-requires-clause-below c =
    let up = c.gap_before-before.ensures.up_to in
    let within = c.requires.within (omega arith) in
    let enough = c.requires.levels.1 in
    omega arith
