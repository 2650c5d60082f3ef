use Rattle.std.proofs.Common.{refl, arith}
use Rattle.std.proofs.lemmas.Fmt.{decimal_digit}
use Rattle.ms_event.proofs.Digits.{one_more, reads_too_large, reads_whole}
use Rattle.ms_event.proofs.number.more_digits.Goals as goal

pub loop-next-init : goal.loop-next-init
loop-next-init c = record { positive = omega arith; fits = omega arith; so_far = rw (decimal_digit c.args.first (omega arith)) refl }

pub returns-in_err-value : goal.returns-in_err-value
returns-in_err-value c = rw c.from_residual.ensures (reads_too_large c.loop-next.value c.in-Some.next _ c.digit.new.left.left _ c.loop-next.invariant.positive c.in-Some.ensures.0 c.loop-next.invariant.fits c.in_err-value.ensures (rw c.in-Some.ensures.1 at c.loop-next.invariant.so_far))

pub loop-next-preserved : goal.loop-next-preserved
loop-next-preserved c = record {
  positive = omega (arith, c.in_ok-value.ensures.1);
  fits = c.in_ok-value.ensures.0;
  so_far = rw c.in_ok-value.ensures.1 (one_more c.loop-next.value c.in-Some.next _ c.loop-next.left.left c.digit.new.left.left c.loop-next.invariant.positive c.in-Some.ensures.0 c.loop-next.invariant.fits c.loop-next.invariant.so_far c.in-Some.ensures.1);
}

pub returns : goal.returns
returns c = reads_whole c.loop-next.value _ c.digit.new.left.left c.loop-next.invariant.fits (rw c.in_default.ensures.1 c.loop-next.invariant.so_far) (rw c.in_default.ensures.1 c.in_default.ensures.0)
