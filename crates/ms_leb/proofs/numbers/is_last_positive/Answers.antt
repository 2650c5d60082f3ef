use Rattle.std.proofs.Common.{◌-◌, arith}
use Rattle.std.proofs.lemmas.Bool.Decides.{nat_tests}
use Rattle.ms_leb.proofs.Powers.{pow_low}
use Rattle.ms_leb.proofs.numbers.is_last_positive.Goals as goal

pub returns-then-bits-ge7 : goal.returns-then-bits-ge7
returns-then-bits-ge7 c = grind (arith, nat_tests, pow_low (c.args.bits - 1))
