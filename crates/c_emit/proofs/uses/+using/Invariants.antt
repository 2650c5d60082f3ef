use Rattle.std.proofs.Common.{◌≡◌, drop}
use Rattle.c_code.specs.Uses.{in_exprs}
use Rattle.c_place.specs.refinement.Lists.{exprs_in}
use Rattle.c_emit.specs.refinement.Found.{found, with_uses}
use Rattle.c_emit.proofs.uses.+using.Given as goal

abbrev pub invariant-in_exprs-loop-e : goal.invariant-in_exprs-loop-e
invariant-in_exprs-loop-e l =
    with_uses l.structs (in_exprs (exprs_in (drop l.e-index l.es))) (found l.uses) ≡ with_uses l.structs (in_exprs (exprs_in l.es)) (found l.fn.uses)
