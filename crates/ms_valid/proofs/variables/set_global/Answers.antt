use Rattle.ms_valid.proofs.Parts.{sets_global}
use Rattle.ms_valid.proofs.variables.set_global.Goals as goal

pub returns-then-global : goal.returns-then-global
returns-then-global c = sets_global c.args.operands.now c.take.new.self c.take.result c.args.global c.in-Some.global c.in-Some.is c.if-global.true c.take.ensures
