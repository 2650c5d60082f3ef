use Rattle.std.proofs.Common.{arith}
use Rattle.std.proofs.lemmas.Grind.{common_steps}
use Rattle.std.proofs.Math.Seq.{take-set-lt}
use Rattle.ms_types.proofs.Reversed.{reverse-set_last, reverse-take}
use Rattle.ms_linear.proofs.bounded.BoundedStack.set_top_two.Goals as goal

pub returns : goal.returns
returns g c = grind (arith, common_steps, take-set-lt, reverse-set_last, reverse-take)
