use Rattle.std.proofs.Common.{arith}
use Rattle.std.proofs.lemmas.Int.{ints}
use Rattle.ms_leb.proofs.Powers.{pow_signed, pow_high}
use Rattle.ms_leb.proofs.numbers.+signed.Goals as goal

pub with_low_bits-requires : goal.with_low_bits-requires
with_low_bits-requires t c =
    let small = c.in_ok-high-in-len1-up-3.ensures.small in
    let high = pow_high c.args.bits (omega arith) c.requires.most in
    record { high = (omega (arith, ints), omega (arith, ints)); low = omega arith }

pub returns-in_ok-high-in-len1-up-3-clause-small :
    goal.returns-in_ok-high-in-len1-up-3-clause-small
returns-in_ok-high-in-len1-up-3-clause-small t c =
    let small = c.in_ok-high-in-len1-up-3.ensures.small in
    let seven = pow_signed c.args.bits (omega arith) in
    (omega (arith, ints, small.0), omega (arith, ints, small.1))
