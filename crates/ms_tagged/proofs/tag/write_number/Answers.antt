use Rattle.ms_tagged.proofs.Tags.{number-written}
use Rattle.std.proofs.Common.{arith, length}
use Rattle.ms_tagged.proofs.tag.write_number.Goals as goal

pub loop-tag-preserved : goal.loop-tag-preserved
loop-tag-preserved c =
    number-written c.loop-tag.tags c.loop-tag.tag-index (length c.args.tags.now) c.loop-tag.rest c.args.number (omega arith) (omega arith) c.loop-tag.invariant
