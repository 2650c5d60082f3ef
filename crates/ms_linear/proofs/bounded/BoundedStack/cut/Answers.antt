use Rattle.std.proofs.Common.{arith}
use Rattle.std.proofs.lemmas.Grind.{common_steps}
use Rattle.ms_types.proofs.Reversed.{reverse-take}
use Rattle.ms_linear.proofs.bounded.BoundedStack.cut.Goals as goal

pub returns : goal.returns
returns g c = grind (arith, common_steps, reverse-take)
