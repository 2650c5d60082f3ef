use Rattle.std.proofs.Common.{◌≡◌, ◌+◌, ◌*◌, drop, length, []}
use Rattle.c_types.specs.refinement.Views.{types_in}
use Rattle.c_tree.specs.refinement.Views.{exprs_of, expr_nodes, exprs_nodes}
use Rattle.c_check_types.specs.TypeEquality.{tys_of}
use Rattle.c_check_types.specs.refinement.Views.{state_of}
use Rattle.c_check_exprs.specs.Expressions.{arguments}
use Rattle.c_check_exprs.specs.refinement.Views.{exprs_in}
use Rattle.c_check_exprs.proofs.expression.+typing.Given as goal

abbrev pub invariant-arguments-loop-i : goal.invariant-arguments-loop-i
invariant-arguments-loop-i l =
    (length l.items ≡ length l.types) × (arguments (exprs_of (drop l.i l.items)) (tys_of (types_in (drop l.i l.types))) (exprs_in l.values.items) (state_of l.checker) ≡ arguments l.fn.es (tys_of (types_in l.types)) [] (state_of l.fn.checker))

abbrev pub decreases-typing : goal.decreases-typing
decreases-typing l = 8 * expr_nodes l.e.now

abbrev pub decreases-typed_operand : goal.decreases-typed_operand
decreases-typed_operand l = 8 * expr_nodes l.e.now + 1

abbrev pub decreases-typed_value : goal.decreases-typed_value
decreases-typed_value l = 8 * expr_nodes l.e.now + 1

abbrev pub decreases-typed_integer : goal.decreases-typed_integer
decreases-typed_integer l = 8 * expr_nodes l.e.now + 1

abbrev pub decreases-typed_pointer : goal.decreases-typed_pointer
decreases-typed_pointer l = 8 * expr_nodes l.e.now + 1

abbrev pub decreases-typed_place : goal.decreases-typed_place
decreases-typed_place l = 8 * expr_nodes l.e.now + 1

abbrev pub decreases-typed_condition : goal.decreases-typed_condition
decreases-typed_condition l = 8 * expr_nodes l.e.now + 1

abbrev pub decreases-performed : goal.decreases-performed
decreases-performed l = 8 * expr_nodes l.e.now + 1

abbrev pub decreases-typed_as : goal.decreases-typed_as
decreases-typed_as l = 8 * expr_nodes l.e.now + 1

abbrev pub decreases-step : goal.decreases-step
decreases-step l = 8 * expr_nodes l.e.now + 1

abbrev pub decreases-between : goal.decreases-between
decreases-between l = 8 * (expr_nodes l.a.now + expr_nodes l.b.now) + 4

abbrev pub decreases-choosing : goal.decreases-choosing
decreases-choosing l = 8 * (expr_nodes l.c.now + expr_nodes l.a.now + expr_nodes l.b.now) + 4

abbrev pub decreases-unary : goal.decreases-unary
decreases-unary l = 8 * expr_nodes l.e.now + 2

abbrev pub decreases-size_of : goal.decreases-size_of
decreases-size_of l = 8 * expr_nodes l.e.now + 1

abbrev pub decreases-operating : goal.decreases-operating
decreases-operating l = 8 * expr_nodes l.b.now + 3

abbrev pub decreases-both : goal.decreases-both
decreases-both l = 8 * expr_nodes l.b.now + 2

abbrev pub decreases-either : goal.decreases-either
decreases-either l = 8 * expr_nodes l.b.now + 2

abbrev pub decreases-equal : goal.decreases-equal
decreases-equal l = 8 * expr_nodes l.b.now + 2

abbrev pub decreases-call : goal.decreases-call
decreases-call l = 8 * (expr_nodes l.f.now + exprs_nodes l.es.now) + 4

abbrev pub decreases-library_call : goal.decreases-library_call
decreases-library_call l = 8 * exprs_nodes l.es.now + 2

abbrev pub decreases-sole : goal.decreases-sole
decreases-sole l = 8 * exprs_nodes l.es.now + 1

abbrev pub decreases-factors : goal.decreases-factors
decreases-factors l = 8 * exprs_nodes l.es.now + 1

abbrev pub decreases-multiplying : goal.decreases-multiplying
decreases-multiplying l = 8 * (expr_nodes l.a.now + expr_nodes l.b.now) + 2

abbrev pub decreases-called : goal.decreases-called
decreases-called l = 8 * exprs_nodes l.es.now + 3

abbrev pub decreases-called_function : goal.decreases-called_function
decreases-called_function l = 8 * exprs_nodes l.es.now + 2

abbrev pub decreases-arguments : goal.decreases-arguments
decreases-arguments l = 8 * exprs_nodes l.es.now + 1
