use Rattle.c_emit.specs.refinement.Found.{found}
use Rattle.c_emit.proofs.Using.{call_found}
use Rattle.c_emit.proofs.uses.called.Goals as goal

pub returns : goal.returns
returns c = λ structs. call_found structs c.args.number (found c.args.uses.now) c.set.new.flags.items c.set.ensures
