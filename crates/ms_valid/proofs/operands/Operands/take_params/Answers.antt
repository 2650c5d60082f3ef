use Rattle.std.proofs.Common.{arith, ◌-◌, refl}
use Rattle.ms_valid.proofs.Shapes.{not_taken}
use Rattle.ms_valid.proofs.operands.Operands.take_params.Goals as goal

pub returns-then-not-take : goal.returns-then-not-take
returns-then-not-take c = not_taken c.args.params.now c.loop-i.i (c.loop-i.i - 1) _ _ (omega arith) c.loop-i.invariant.0 refl refl c.loop-i.invariant.1 c.if-not-take.ensures
