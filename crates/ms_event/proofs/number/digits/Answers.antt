use Rattle.ms_event.proofs.Digits.{reads_no_digit, reads_zero}
use Rattle.ms_event.proofs.number.digits.Goals as goal

pub returns-in_err-first : goal.returns-in_err-first
returns-in_err-first c = rw c.from_residual.ensures (reads_no_digit _ _ c.in_err-first.ensures.0)

pub returns-then-first-eq0 : goal.returns-then-first-eq0
returns-then-first-eq0 c = let zero = c.if-first-eq0.true in reads_zero _ _ (rw zero at c.in_ok-first.ensures.1)
