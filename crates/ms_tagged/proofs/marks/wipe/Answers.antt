use Rattle.std.proofs.Common.{◌∙◌, arith}
use Rattle.ms_tagged.proofs.Wiping.{wipes-both, wipes-past}
use Rattle.ms_tagged.proofs.marks.wipe.Goals as goal

pub loop-at-preserved : goal.loop-at-preserved
loop-at-preserved c = record {
  from = omega arith;
  to = omega arith;
  plain_len = c.wipe_region.auto.plain ∙ c.loop-at.invariant.plain_len;
  masks_len = c.wipe_region.auto.masks ∙ c.loop-at.invariant.masks_len;
  written_len = c.wipe_region.auto.written ∙ c.loop-at.invariant.written_len;
  wipes = wipes-both c.args.plain.now c.args.masks.now c.loop-at.plain c.loop-at.masks c.wipe_region.new.plain c.wipe_region.new.masks c.args.from c.loop-at.at _ c.loop-at.invariant.from (omega arith) c.loop-at.invariant.wipes c.wipe_region.ensures.wipes;
  blank = c.wipe_region.ensures.blank;
}

pub returns-clause-wipes : goal.returns-clause-wipes
returns-clause-wipes c =
    wipes-past c.args.plain.now c.args.masks.now c.loop-at.plain c.loop-at.masks c.args.from c.loop-at.at c.args.to c.loop-at.invariant.to (λ less. omega arith) (omega arith) c.loop-at.invariant.wipes
