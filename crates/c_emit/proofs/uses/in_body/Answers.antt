use Rattle.std.proofs.Common.{ap}
use Rattle.c_typed.specs.refinement.Views.{body_of}
use Rattle.c_code.specs.Uses.{in_body}
use Rattle.c_emit.proofs.Using.{nothing_found}
use Rattle.c_emit.proofs.uses.in_body.Goals as goal

pub returns-in-None : goal.returns-in-None
returns-in-None c = nothing_found _ _ _ (ap (λ b. in_body (body_of b)) c.in-None.is)
