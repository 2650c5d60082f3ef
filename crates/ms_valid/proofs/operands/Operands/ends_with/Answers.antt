use Rattle.std.proofs.Common.{arith, sym, ◌∙◌}
use Rattle.ms_valid.proofs.Shapes.{ended_one, not_ended}
use Rattle.ms_valid.proofs.operands.Operands.ends_with.Goals as goal

pub returns-in-1 : goal.returns-in-1
returns-in-1 c = ended_one c.args.self.now c.self.inside.slots c.self.inside.dead c.get.result c.args.ty c.allows.result c.self.view_is (sym c.len.ensures ∙ c.in-1.is) c.get.ensures c.allows.ensures

pub returns-in_default : goal.returns-in_default
returns-in_default c = not_ended c.args.self.now c.self.inside.slots c.self.inside.dead c.args.ty c.self.view_is (omega (arith, c.len.ensures))
