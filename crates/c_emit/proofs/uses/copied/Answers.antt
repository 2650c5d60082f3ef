use Rattle.c_emit.specs.refinement.Found.{found}
use Rattle.c_emit.proofs.Using.{copy_found}
use Rattle.c_emit.proofs.uses.copied.Goals as goal

pub returns : goal.returns
returns c = copy_found c.args.structs.now c.args.number (found c.args.uses.now) c.in_ok-uses.field-0 c.in_ok-uses.ensures
