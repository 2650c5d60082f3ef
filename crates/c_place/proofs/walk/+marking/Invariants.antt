use Rattle.std.proofs.Common.{◌≡◌, drop}
use Rattle.c_typed.specs.Objects.{in_exprs}
use Rattle.c_place.specs.refinement.Lists.{exprs_in}
use Rattle.c_place.specs.refinement.Marks.{marked}
use Rattle.c_place.proofs.walk.+marking.Given as goal

abbrev pub invariant-exprs-loop-e : goal.invariant-exprs-loop-e
invariant-exprs-loop-e l = marked (λ v. in_exprs v (exprs_in (drop l.e-index l.es))) l.marks ≡ marked (λ v. in_exprs v (exprs_in l.es)) l.fn.marks
