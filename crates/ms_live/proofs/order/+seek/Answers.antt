use Rattle.std.proofs.Common.{◌-◌, length, arith, subst}
use Rattle.ms_live.specs.refinement.Ordered.{IsWithinArena}
use Rattle.ms_live.proofs.OrderedSteps.{linked, middle_is}
use Rattle.ms_live.proofs.order.+seek.Goals as goal

pub overflow_add-middle : goal.overflow_add-middle
overflow_add-middle t c = let m = middle_is c.args.level c.args.low (omega arith) (omega arith) c.requires.range in omega (arith, c.half.ensures, m.fits)

pub seek-requires : goal.seek-requires
seek-requires t c =
    let m = middle_is c.args.level c.args.low (omega arith) (omega arith) c.requires.range in
    let w = subst (IsWithinArena (length c.args.nodes.now)) (linked c.args.nodes.now c.args.level (c.args.level - 1) c.in_ok-root.root c.args.branch (omega arith) c.in_ok-root.was) c.requires.within in
    (omega arith, (omega arith, (omega (arith, m.lower), w.1)))

pub seek-requires-else-id-middle : goal.seek-requires-else-id-middle
seek-requires-else-id-middle t c =
    let m = middle_is c.args.level c.args.low (omega arith) (omega arith) c.requires.range in
    let w = subst (IsWithinArena (length c.args.nodes.now)) (linked c.args.nodes.now c.args.level (c.args.level - 1) c.in_ok-root.root c.args.branch (omega arith) c.in_ok-root.was) c.requires.within in
    (omega arith, (omega arith, (omega (arith, m.upper, c.half.ensures), w.2)))
