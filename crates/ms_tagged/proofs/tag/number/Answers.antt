use Rattle.std.proofs.Common.{◌<◌, ◌-◌, arith, length, ap, sym, ◌∙◌}
use Rattle.ms_tagged.specs.declared.tag.Tag.TheVariants as tagged
use Rattle.ms_tagged.proofs.Numbers.{fits-number, digit-more}
use Rattle.ms_tagged.proofs.Tags.{number-read, no_number-read}
use Rattle.ms_tagged.proofs.tag.number.Goals as goal

pub overflow_mul-value : goal.overflow_mul-value
overflow_mul-value c =
    let h = fits-number c.loop-index.value 0 (length c.args.tags.now - c.loop-index.index) (omega arith) (omega arith) c.loop-index.invariant.small in omega (arith, h)

pub overflow_add-value : goal.overflow_add-value
overflow_add-value c =
    let small : c.from.result < 256 = omega arith in
    let h = fits-number c.loop-index.value c.from.result (length c.args.tags.now - c.loop-index.index) (omega arith) small c.loop-index.invariant.small in omega (arith, h)

pub loop-index-preserved : goal.loop-index-preserved
loop-index-preserved c = record {
  read = number-read c.args.tags.now c.loop-index.index c.from.result c.loop-index.value c.loop-index-test.true c.loop-index.auto.index (c.in-Data.is ∙ ap tagged.Data (sym c.from.ensures)) c.loop-index.invariant.read;
  small = digit-more c.loop-index.value c.from.result (length c.args.tags.now - c.loop-index.index) _ (omega arith) (omega arith) c.loop-index.invariant.small;
}

pub returns-in-Piece-clause-number : goal.returns-in-Piece-clause-number
returns-in-Piece-clause-number c =
    sym (no_number-read c.args.tags.now (c.loop-index.index - 1) c.in-Piece.field-0 c.in-Piece.field-1 (omega arith) c.in-Piece.is)
