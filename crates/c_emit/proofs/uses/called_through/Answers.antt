use Rattle.c_types.specs.Types.{type_of}
use Rattle.c_emit.specs.refinement.Found.{found}
use Rattle.c_emit.proofs.Using.{through_found}
use Rattle.c_emit.proofs.uses.called_through.Goals as goal

pub returns : goal.returns
returns c = λ structs. through_found _ _ c.add.result structs (type_of c.args.t.now) (found c.args.uses.now) c.add.new.self c.add.ensures.ok
