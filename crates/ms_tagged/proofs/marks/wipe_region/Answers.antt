use Rattle.std.proofs.Common.{◌≡◌, ◌∙◌, arith}
use Rattle.ms_tagged.proofs.Wiping.{region-none, wipes-blank, wipes-both}
use Rattle.ms_tagged.proofs.marks.wipe_region.Goals as goal

pub returns-then-marks-eq0-clause-wipes : goal.returns-then-marks-eq0-clause-wipes
returns-then-marks-eq0-clause-wipes c =
    wipes-blank c.args.plain.now c.args.masks.now c.args.written.now c.args.from c.args.to c.requires.blank (λ i above below. region-none c.args.written.now c.args.from i (omega arith) c.if-marks-eq0.true)

pub loop-at-preserved : goal.loop-at-preserved
loop-at-preserved c = record {
  from = omega arith;
  to = omega arith;
  plain_len = c.wipe_block.auto.plain ∙ c.loop-at.invariant.plain_len;
  masks_len = c.wipe_block.auto.masks ∙ c.loop-at.invariant.masks_len;
  written_len = c.wipe_block.auto.written ∙ c.loop-at.invariant.written_len;
  wipes = wipes-both c.args.plain.now c.args.masks.now c.loop-at.plain c.loop-at.masks c.wipe_block.new.plain c.wipe_block.new.masks c.args.from c.loop-at.at _ c.loop-at.invariant.from (omega arith) c.loop-at.invariant.wipes c.wipe_block.ensures.wipes;
  blank = c.wipe_block.ensures.blank;
}

pub returns-clause-wipes : goal.returns-clause-wipes
returns-clause-wipes c =
    let e : c.args.to ≡ c.loop-at.at = omega arith in
    rw e c.loop-at.invariant.wipes
