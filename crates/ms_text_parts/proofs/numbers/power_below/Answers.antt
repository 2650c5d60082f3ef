use Rattle.std.proofs.Common.{◌∙◌, arith}
use Rattle.ms_text_parts.proofs.Constants.{miss, missed}
use Rattle.ms_text_parts.proofs.numbers.power_below.Goals as goal

pub loop-k-preserved : goal.loop-k-preserved
loop-k-preserved c =
    let lt = c.loop-k-test.true in
    miss c.args.most c.loop-k.k c.args.n lt (missed c.loop-k.k c.args.n (omega (arith, c.requires)) c.if-n-k.false) ∙ c.loop-k.invariant
