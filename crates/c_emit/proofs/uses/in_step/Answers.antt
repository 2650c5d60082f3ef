use Rattle.std.proofs.Common.{ap}
use Rattle.c_typed.specs.refinement.Views.{step_of}
use Rattle.c_code.specs.Uses.{in_step}
use Rattle.c_emit.proofs.Using.{nothing_found}
use Rattle.c_emit.proofs.uses.in_step.Goals as goal

pub returns-in-None : goal.returns-in-None
returns-in-None c = nothing_found _ _ _ (ap (λ e. in_step (step_of e)) c.in-None.is)
