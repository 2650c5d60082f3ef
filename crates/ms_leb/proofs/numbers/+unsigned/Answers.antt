use Rattle.std.proofs.Common.{arith}
use Rattle.ms_leb.proofs.Powers.{pow_seven, pow_word}
use Rattle.ms_leb.proofs.numbers.+unsigned.Goals as goal

pub overflow_mul-result : goal.overflow_mul-result
overflow_mul-result t c =
    omega (arith, pow_seven c.args.bits (omega arith), pow_word c.args.bits c.requires, c.in_ok-high-in-len1-up-2.ensures.small)

pub overflow_add-result : goal.overflow_add-result
overflow_add-result t c =
    omega (arith, pow_seven c.args.bits (omega arith), pow_word c.args.bits c.requires, c.in_ok-high-in-len1-up-2.ensures.small)

pub returns-in_ok-high-in-len1-up-2-clause-small :
    goal.returns-in_ok-high-in-len1-up-2-clause-small
returns-in_ok-high-in-len1-up-2-clause-small t c =
    omega (arith, pow_seven c.args.bits (omega arith), c.in_ok-high-in-len1-up-2.ensures.small)
