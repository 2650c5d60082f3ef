use Rattle.std.proofs.Common.{◌≡◌, ◌+◌, drop, []}
use Rattle.c_tree.specs.refinement.Views.{parameters_of, declarator_nodes, parameters_nodes, expr_nodes}
use Rattle.c_check_types.specs.Types.{parameters}
use Rattle.c_check_types.specs.refinement.Views.{parameters_in, state_of}
use Rattle.c_check_types.proofs.checker.Checker.+types.Given as goal

abbrev pub invariant-parameters-loop-p : goal.invariant-parameters-loop-p
invariant-parameters-loop-p l =
    parameters (parameters_of (drop l.p-index l.p-items)) l.names (parameters_in l.params.items) (state_of l.self) ≡ parameters l.fn.ps [] [] (state_of l.fn.self)

abbrev pub decreases-parameter : goal.decreases-parameter
decreases-parameter l = declarator_nodes l.p.now.declarator + 1

abbrev pub decreases-declared : goal.decreases-declared
decreases-declared l = declarator_nodes l.d.now

abbrev pub decreases-parameters : goal.decreases-parameters
decreases-parameters l = parameters_nodes l.ps.now

abbrev pub decreases-constant : goal.decreases-constant
decreases-constant l = expr_nodes l.e.now
