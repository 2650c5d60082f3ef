use Rattle.std.proofs.Common.{◌≡◌, ◌<◌, ◌+◌, ◌-◌, Some, arith, ap, sym, ◌∙◌}
use Rattle.ms_tagged.proofs.Numbers.{fits-number, digit-more}
use Rattle.ms_tagged.proofs.GranuleBytes.{number-more, number-none}
use Rattle.ms_tagged.proofs.granules.Granules.number.Goals as goal

pub overflow_mul-value : goal.overflow_mul-value
overflow_mul-value c =
    let h = fits-number c.loop-index.value 0 (c.args.width - c.loop-index.index) (omega arith) (omega arith) c.loop-index.invariant.small in omega (arith, h)

pub overflow_add-value : goal.overflow_add-value
overflow_add-value c =
    let small : c.from.result < 256 = omega arith in
    let h = fits-number c.loop-index.value c.from.result (c.args.width - c.loop-index.index) (omega arith) small c.loop-index.invariant.small in omega (arith, h)

pub loop-index-preserved : goal.loop-index-preserved
loop-index-preserved c =
    let next : c.args.from + (c.loop-index.index - 1) + 1 ≡ c.args.from + c.loop-index.index = omega arith in
    record {
      read = number-more c.args.self.now (c.args.from + (c.loop-index.index - 1)) (c.args.width - c.loop-index.index) (c.args.width - (c.loop-index.index - 1)) c.loop-index.value c.from.result (omega arith) (sym c.byte.ensures ∙ (c.in-Some.is ∙ ap Some (sym c.from.ensures))) (rw next c.loop-index.invariant.read);
      small = digit-more c.loop-index.value c.from.result (c.args.width - c.loop-index.index) _ (omega arith) (omega arith) c.loop-index.invariant.small;
    }

pub returns-in-None-clause-number : goal.returns-in-None-clause-number
returns-in-None-clause-number c =
    sym (number-none c.args.self.now c.args.from c.args.width (c.loop-index.index - 1) (omega arith) (omega arith) (sym c.byte.ensures ∙ c.in-None.is))
