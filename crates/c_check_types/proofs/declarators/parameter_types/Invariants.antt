use Rattle.std.proofs.Common.{◌≡◌, ◌++◌, drop, map}
use Rattle.c_types.specs.refinement.Views.{types_in}
use Rattle.c_check_types.specs.refinement.Views.{parameters_in}
use Rattle.c_check_types.proofs.declarators.parameter_types.Given as goal

abbrev pub invariant-loop-p : goal.invariant-loop-p
invariant-loop-p l =
    types_in l.types.items ++ map (λ p. p.ty) (parameters_in (drop l.p-index l.ps)) ≡ map (λ p. p.ty) (parameters_in l.ps)
