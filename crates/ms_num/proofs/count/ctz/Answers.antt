-- What std counts is what the definition asks for, at either width.
use Rattle.std.proofs.Common.{arith}
use Rattle.ms_num.proofs.Zeros.{trailing_32, trailing_64}
use Rattle.ms_num.proofs.count.ctz.Goals as goal

pub returns-in-32-clause-value : goal.returns-in-32-clause-value
returns-in-32-clause-value c =
    trailing_32 c.args.w c.args.a c.from.result (omega arith) c.requires.a c.from.ensures

pub returns-in_default-clause-value : goal.returns-in_default-clause-value
returns-in_default-clause-value c =
    trailing_64 c.args.w c.args.a c.from-in_default.result (omega arith) c.requires.a c.from-in_default.ensures
