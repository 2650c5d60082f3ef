use Rattle.ms_tagged.proofs.Tags.{pieces-written}
use Rattle.std.proofs.Common.{arith}
use Rattle.ms_tagged.proofs.tag.write_pieces.Goals as goal

pub loop-number-preserved : goal.loop-number-preserved
loop-number-preserved c =
    pieces-written c.loop-number.tags c.args.handle c.loop-number.number (omega arith) c.loop-number.invariant
