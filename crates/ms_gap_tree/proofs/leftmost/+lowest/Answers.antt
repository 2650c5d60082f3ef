use Rattle.std.proofs.Common.{◌-◌, arith}
use Rattle.ms_gap_tree.proofs.WayDown.{looked_found, lowest_found, lowest_last}
use Rattle.ms_gap_tree.proofs.leftmost.+lowest.Goals as goal

pub returns-else-level-eq0-clause-found : goal.returns-else-level-eq0-clause-found
returns-else-level-eq0-clause-found g t c =
    lowest_found c.args.nodes.now c.args.level (c.args.level - 1) c.args.n c.in-Some.root c.args.link c.way.result c.lowest-below.result c.least.result (omega arith) c.in-Some.is (omega arith) c.way.ensures c.lowest-below.ensures.found c.least.ensures

pub returns-then-level-eq0-clause-found : goal.returns-then-level-eq0-clause-found
returns-then-level-eq0-clause-found g t c = lowest_last c.args.nodes.now c.args.n c.args.level c.in-Some.root c.args.link (omega arith) c.in-Some.is (omega arith)

pub returns-else-level-eq0-clause-looked : goal.returns-else-level-eq0-clause-looked
returns-else-level-eq0-clause-looked g t c =
    let e = looked_found c.args.nodes.now c.args.level (c.args.level - 1) c.args.n c.in-Some.root c.args.link c.way.result (omega arith) c.in-Some.is (omega arith) c.way.ensures in
    omega (arith, c.lowest-below.ensures.looked, c.tick.ensures, e)
