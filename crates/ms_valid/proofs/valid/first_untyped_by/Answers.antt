use Rattle.std.proofs.Common.{arith}
use Rattle.ms_valid.proofs.Verdicts.{all_typed}
use Rattle.ms_valid.proofs.valid.first_untyped_by.Goals as goal

pub returns : goal.returns
returns c = all_typed c.args.context.now c.args.funcs.now c.loop-number.number (omega arith) c.loop-number.invariant
