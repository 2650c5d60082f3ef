use Rattle.ms_valid.proofs.Shapes.{leads}
use Rattle.ms_valid.proofs.branches.leave.Goals as goal

pub returns : goal.returns
returns c = leads c.args.label c.if-not-take_result.ensures c.jump.ensures
