use Rattle.std.proofs.Common.{arith, rules}
use Rattle.ms_tagged.proofs.Blocks.{wiped_more}
use Rattle.std.proofs.lemmas.Simd.{length-put_chunk}
use Rattle.ms_tagged.proofs.lanes.wipe_all.Goals as goal

pub loop-masks-preserved : goal.loop-masks-preserved
loop-masks-preserved c = record {
  within = search (rules, length-put_chunk);
  wiped = wiped_more c.loop-masks.masks c.loop-masks.at (omega arith) c.loop-masks.invariant.wiped;
}
