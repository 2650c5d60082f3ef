use Rattle.std.proofs.Common.{◌≡◌, drop}
use Rattle.c_check_types.specs.refinement.Views.{parameters_in, state_of}
use Rattle.c_declare.specs.Functions.{enters_parameters}
use Rattle.c_declare.proofs.functions.enters_parameters.Given as goal

abbrev pub invariant-loop-p : goal.invariant-loop-p
invariant-loop-p l =
    enters_parameters (parameters_in (drop l.p-index l.params)) (state_of l.checker) ≡ enters_parameters (parameters_in l.params) (state_of l.fn.checker)
