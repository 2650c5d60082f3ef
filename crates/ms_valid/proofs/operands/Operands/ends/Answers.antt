use Rattle.ms_valid.proofs.Shapes.{ended}
use Rattle.ms_valid.proofs.operands.Operands.ends.Goals as goal

pub returns-in-None : goal.returns-in-None
returns-in-None c = ended c.args.self.now c.self.inside.slots c.self.inside.dead c.len.result c.args.ty c.self.view_is c.len.ensures c.in-None.is
