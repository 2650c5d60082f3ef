use Rattle.ms_valid.proofs.Shapes.{drops}
use Rattle.ms_valid.proofs.operands.Operands.take_any.Goals as goal

pub returns-in-Some : goal.returns-in-Some
returns-in-Some c = drops c.args.self.now c.pop.new.self c.in-Some.field-0 c.in-Some.ensures.slot c.in-Some.ensures.shape
