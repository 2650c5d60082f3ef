use Rattle.ms_valid.proofs.Parts.{sets}
use Rattle.ms_valid.proofs.variables.set.Goals as goal

pub returns-in-Some : goal.returns-in-Some
returns-in-Some c = sets c.args.operands.now c.take.new.self c.take.result c.args.local c.in-Some.ty c.in-Some.is c.take.ensures
