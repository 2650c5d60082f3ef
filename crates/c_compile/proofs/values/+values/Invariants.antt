use Rattle.std.proofs.Common.{◌+◌, ◌*◌, drop}
use Rattle.c_typed.specs.refinement.Views.{expr_of, place_of}
use Rattle.c_place.specs.refinement.Lists.{exprs_in}
use Rattle.c_compile.proofs.Nodes.{expr_nodes, exprs_nodes, place_nodes}
use Rattle.c_code.specs.Expressions.{exprs}
use Rattle.ms_emit.specs.refinement.Parts.{Adds}
use Rattle.ms_module.specs.Building.{State}
use Rattle.c_compile.proofs.values.+values.Given as goal

-- what is added behind the arguments so far, if it is the code of the others, makes that of all
abbrev pub invariant-arguments-loop-e : goal.invariant-arguments-loop-e
invariant-arguments-loop-e l =
    (s : State) → Adds l.body s (exprs l.t.target l.d (exprs_in (drop l.e-index l.es))) → Adds l.fn.body s (exprs l.t.target l.d (exprs_in l.es))

abbrev pub decreases-place : goal.decreases-place
decreases-place l = 8 * place_nodes (place_of l.p.now)

abbrev pub decreases-member : goal.decreases-member
decreases-member l = 8 * place_nodes (place_of l.p.now) + 1

abbrev pub decreases-part : goal.decreases-part
decreases-part l = 8 * place_nodes (place_of l.p.now)

abbrev pub decreases-part_behind : goal.decreases-part_behind
decreases-part_behind l = 8 * expr_nodes (expr_of l.e.now) + 1

abbrev pub decreases-part_of_member : goal.decreases-part_of_member
decreases-part_of_member l = 8 * place_nodes (place_of l.p.now) + 1

abbrev pub decreases-read : goal.decreases-read
decreases-read l = 8 * place_nodes (place_of l.p.now) + 2

abbrev pub decreases-read_object : goal.decreases-read_object
decreases-read_object l = 8 * place_nodes (place_of l.p.now) + 1

abbrev pub decreases-decay : goal.decreases-decay
decreases-decay l = 8 * place_nodes (place_of l.p.now) + 3

abbrev pub decreases-decayed : goal.decreases-decayed
decreases-decayed l = 8 * place_nodes (place_of l.p.now) + 2

abbrev pub decreases-narrowed : goal.decreases-narrowed
decreases-narrowed l = 8 * place_nodes (place_of l.p.now) + 1

abbrev pub decreases-value : goal.decreases-value
decreases-value l = 8 * expr_nodes (expr_of l.e.now)

abbrev pub decreases-thrown : goal.decreases-thrown
decreases-thrown l = 8 * expr_nodes (expr_of l.e.now) + 3

abbrev pub decreases-left : goal.decreases-left
decreases-left l = 8 * expr_nodes (expr_of l.e.now) + 2

abbrev pub decreases-dropped : goal.decreases-dropped
decreases-dropped l = 8 * expr_nodes (expr_of l.e.now) + 1

abbrev pub decreases-converted : goal.decreases-converted
decreases-converted l = 8 * expr_nodes (expr_of l.a.now) + 2

abbrev pub decreases-value_converted : goal.decreases-value_converted
decreases-value_converted l = 8 * expr_nodes (expr_of l.a.now) + 1

abbrev pub decreases-true_of : goal.decreases-true_of
decreases-true_of l = 8 * expr_nodes (expr_of l.a.now) + 1

abbrev pub decreases-as_bit : goal.decreases-as_bit
decreases-as_bit l = 8 * expr_nodes (expr_of l.a.now) + 2

abbrev pub decreases-not : goal.decreases-not
decreases-not l = 8 * expr_nodes (expr_of l.a.now) + 1

abbrev pub decreases-unary : goal.decreases-unary
decreases-unary l = 8 * expr_nodes (expr_of l.a.now) + 2

abbrev pub decreases-negated : goal.decreases-negated
decreases-negated l = 8 * expr_nodes (expr_of l.a.now) + 1

abbrev pub decreases-complemented : goal.decreases-complemented
decreases-complemented l = 8 * expr_nodes (expr_of l.a.now) + 1

abbrev pub decreases-binary : goal.decreases-binary
decreases-binary l = 8 * (expr_nodes (expr_of l.a.now) + expr_nodes (expr_of l.b.now)) + 1

abbrev pub decreases-compared : goal.decreases-compared
decreases-compared l = 8 * (expr_nodes (expr_of l.a.now) + expr_nodes (expr_of l.b.now)) + 1

abbrev pub decreases-functions_compared : goal.decreases-functions_compared
decreases-functions_compared l = 8 * (expr_nodes (expr_of l.a.now) + expr_nodes (expr_of l.b.now)) + 1

abbrev pub decreases-pointers_compared : goal.decreases-pointers_compared
decreases-pointers_compared l = 8 * (expr_nodes (expr_of l.a.now) + expr_nodes (expr_of l.b.now)) + 3

abbrev pub decreases-pointers_equal : goal.decreases-pointers_equal
decreases-pointers_equal l = 8 * (expr_nodes (expr_of l.a.now) + expr_nodes (expr_of l.b.now)) + 2

abbrev pub decreases-equal_to : goal.decreases-equal_to
decreases-equal_to l = 8 * expr_nodes (expr_of l.b.now) + 1

abbrev pub decreases-pointers_differ : goal.decreases-pointers_differ
decreases-pointers_differ l = 8 * (expr_nodes (expr_of l.a.now) + expr_nodes (expr_of l.b.now)) + 2

abbrev pub decreases-unlike : goal.decreases-unlike
decreases-unlike l = 8 * expr_nodes (expr_of l.b.now) + 1

abbrev pub decreases-pointers_ordered : goal.decreases-pointers_ordered
decreases-pointers_ordered l = 8 * (expr_nodes (expr_of l.a.now) + expr_nodes (expr_of l.b.now)) + 1

abbrev pub decreases-difference : goal.decreases-difference
decreases-difference l = 8 * (expr_nodes (expr_of l.a.now) + expr_nodes (expr_of l.b.now)) + 1

abbrev pub decreases-moved : goal.decreases-moved
decreases-moved l = 8 * (expr_nodes (expr_of l.a.now) + expr_nodes (expr_of l.b.now)) + 3

abbrev pub decreases-step : goal.decreases-step
decreases-step l = 8 * expr_nodes (expr_of l.b.now) + 2

abbrev pub decreases-on_by : goal.decreases-on_by
decreases-on_by l = 8 * expr_nodes (expr_of l.b.now) + 1

abbrev pub decreases-back_by : goal.decreases-back_by
decreases-back_by l = 8 * expr_nodes (expr_of l.b.now) + 1

abbrev pub decreases-moved_by : goal.decreases-moved_by
decreases-moved_by l = 8 * (expr_nodes (expr_of l.a.now) + expr_nodes (expr_of l.b.now)) + 1

abbrev pub decreases-and : goal.decreases-and
decreases-and l = 8 * (expr_nodes (expr_of l.a.now) + expr_nodes (expr_of l.b.now)) + 3

abbrev pub decreases-or : goal.decreases-or
decreases-or l = 8 * (expr_nodes (expr_of l.a.now) + expr_nodes (expr_of l.b.now)) + 3

abbrev pub decreases-choose : goal.decreases-choose
decreases-choose l = 8 * (expr_nodes (expr_of l.c.now) + expr_nodes (expr_of l.a.now) + expr_nodes (expr_of l.b.now)) + 1

abbrev pub decreases-comma : goal.decreases-comma
decreases-comma l = 8 * (expr_nodes (expr_of l.a.now) + expr_nodes (expr_of l.b.now)) + 4

abbrev pub decreases-assign : goal.decreases-assign
decreases-assign l = 8 * (place_nodes (place_of l.p.now) + expr_nodes (expr_of l.e.now)) + 2

abbrev pub decreases-begin_write : goal.decreases-begin_write
decreases-begin_write l = 8 * place_nodes (place_of l.p.now) + 1

abbrev pub decreases-begin_with_old : goal.decreases-begin_with_old
decreases-begin_with_old l = 8 * place_nodes (place_of l.p.now) + 2

abbrev pub decreases-object_with_old : goal.decreases-object_with_old
decreases-object_with_old l = 8 * place_nodes (place_of l.p.now) + 1

abbrev pub decreases-begin_over_old : goal.decreases-begin_over_old
decreases-begin_over_old l = 8 * place_nodes (place_of l.p.now) + 2

abbrev pub decreases-object_over_old : goal.decreases-object_over_old
decreases-object_over_old l = 8 * place_nodes (place_of l.p.now) + 1

abbrev pub decreases-update : goal.decreases-update
decreases-update l = 8 * (place_nodes (place_of l.p.now) + expr_nodes (expr_of l.e.now)) + 4

abbrev pub decreases-update_to_new : goal.decreases-update_to_new
decreases-update_to_new l = 8 * (place_nodes (place_of l.p.now) + expr_nodes (expr_of l.e.now)) + 3

abbrev pub decreases-update_over_old : goal.decreases-update_over_old
decreases-update_over_old l = 8 * (place_nodes (place_of l.p.now) + expr_nodes (expr_of l.e.now)) + 3

abbrev pub decreases-change : goal.decreases-change
decreases-change l = 8 * expr_nodes (expr_of l.e.now) + 1

abbrev pub decreases-advance : goal.decreases-advance
decreases-advance l = 8 * (place_nodes (place_of l.p.now) + expr_nodes (expr_of l.e.now)) + 4

abbrev pub decreases-advance_to_new : goal.decreases-advance_to_new
decreases-advance_to_new l = 8 * (place_nodes (place_of l.p.now) + expr_nodes (expr_of l.e.now)) + 3

abbrev pub decreases-advance_over_old : goal.decreases-advance_over_old
decreases-advance_over_old l = 8 * (place_nodes (place_of l.p.now) + expr_nodes (expr_of l.e.now)) + 3

abbrev pub decreases-copy : goal.decreases-copy
decreases-copy l = 8 * (place_nodes (place_of l.p.now) + place_nodes (place_of l.q.now)) + 1

abbrev pub decreases-visit : goal.decreases-visit
decreases-visit l = 8 * place_nodes (place_of l.p.now) + 1

abbrev pub decreases-call : goal.decreases-call
decreases-call l = 8 * exprs_nodes (exprs_in l.es.now) + 2

abbrev pub decreases-call_through : goal.decreases-call_through
decreases-call_through l = 8 * (expr_nodes (expr_of l.f.now) + exprs_nodes (exprs_in l.es.now)) + 3

abbrev pub decreases-deeper_arguments : goal.decreases-deeper_arguments
decreases-deeper_arguments l = 8 * exprs_nodes (exprs_in l.es.now) + 2

abbrev pub decreases-arguments : goal.decreases-arguments
decreases-arguments l = 8 * exprs_nodes (exprs_in l.es.now) + 1

abbrev pub decreases-putchar : goal.decreases-putchar
decreases-putchar l = 8 * expr_nodes (expr_of l.a.now) + 1

abbrev pub decreases-malloc : goal.decreases-malloc
decreases-malloc l = 8 * expr_nodes (expr_of l.e.now) + 2

abbrev pub decreases-allocated : goal.decreases-allocated
decreases-allocated l = 8 * expr_nodes (expr_of l.e.now) + 1

abbrev pub decreases-calloc : goal.decreases-calloc
decreases-calloc l = 8 * (expr_nodes (expr_of l.a.now) + expr_nodes (expr_of l.b.now)) + 1

abbrev pub decreases-free : goal.decreases-free
decreases-free l = 8 * expr_nodes (expr_of l.e.now) + 1
