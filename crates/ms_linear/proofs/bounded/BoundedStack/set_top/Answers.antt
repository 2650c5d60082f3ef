use Rattle.std.proofs.Common.{arith}
use Rattle.std.proofs.lemmas.Grind.{common_steps}
use Rattle.ms_types.proofs.Reversed.{reverse-set_last}
use Rattle.ms_linear.proofs.bounded.BoundedStack.set_top.Goals as goal

pub returns : goal.returns
returns g c = grind (arith, common_steps, reverse-set_last)
