use Rattle.ms_tagged.proofs.Tags.{zeros-written}
use Rattle.std.proofs.Common.{arith}
use Rattle.ms_tagged.proofs.tag.write_zeros.Goals as goal

pub loop-tag-preserved : goal.loop-tag-preserved
loop-tag-preserved c = zeros-written c.loop-tag.tags c.loop-tag.tag-index (omega arith) c.loop-tag.invariant
