use Rattle.std.proofs.Common.{sym}
use Rattle.c_declare.proofs.Small.{one_more}
use Rattle.c_declare.proofs.structs.are_small.Goals as goal

pub loop-t-preserved : goal.loop-t-preserved
loop-t-preserved c =
    λ rest. c.loop-t.invariant (one_more c.args.structs.now c.args.types.now c.loop-t.t-index c.t-item.result _ c.loop-t-test.true c.t-item.is (sym c.in-Some.ensures.is) rest)
