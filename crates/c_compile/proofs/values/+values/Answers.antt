use Rattle.std.proofs.Common.{◌≡◌, ◌∙◌, ◌+◌, ℕ, true, false, List, Option, Some, drop, ap, refl, sym, subst, arith}
use Rattle.std.proofs.lemmas.List.{drop_all}
use Rattle.std.specs.Prelude.{OnOk}
use Rattle.c_types.specs.declared.types.Scalar.TheVariants as scalars
use Rattle.c_types.specs.Layout.{size}
use Rattle.c_types.specs.Types.{type_of}
use Rattle.c_typed.specs.declared.ops.RelOp.{RelOp}
use Rattle.c_typed.specs.declared.ops.UnaryOp.{UnaryOp}
use Rattle.c_typed.specs.declared.tree.Expr.{Expr}
use Rattle.c_typed.specs.Tree as tree
use Rattle.c_typed.specs.refinement.Views.{expr_of, place_of}
use Rattle.c_place.proofs.Lists.{call_is, call_through_is}
use Rattle.c_place.proofs.Marking.{ahead}
use Rattle.c_place.specs.refinement.Lists.{exprs_in}
use Rattle.c_code.specs.Expressions.{allocated, expr, exprs, moved}
use Rattle.ms_emit.specs.Codes.{one, ◌⨾◌}
use Rattle.ms_emit.specs.refinement.Parts.{Adds}
use Rattle.ms_module.specs.declared.instr.Instr.TheVariants.{Drop}
use Rattle.c_compile.specs.refinement.Known.{bytes_in}
use Rattle.c_compile.proofs.Arms.{Emits, by_flag, next_argument, of_function, of_left, of_list, of_place, of_places, of_three, of_two, of_unary}
use Rattle.c_compile.proofs.Nodes.{call_nodes, call_through_nodes, one_falls}
use Rattle.c_compile.proofs.Sizes.{at_size}
use Rattle.c_emit.proofs.Steps.{nothing_added, second_may_end, then_if, then_three}
use Rattle.c_compile.proofs.values.+values.Goals as goal

pub value-returns-in-Binary : goal.value-returns-in-Binary
value-returns-in-Binary t c =
    let w = c.in-Binary in
    of_two (Emits c.binary.result c.args.body.now c.binary.new.body (expr c.args.t.now.target true c.args.d)) (tree.binary w.o w.u) _ _ _ _ _ (ap expr_of w.is) c.deref-in-Binary.ensures c.deref-in-Binary-2.ensures c.binary.ensures

pub value-returns-in-Compare : goal.value-returns-in-Compare
value-returns-in-Compare t c =
    let w = c.in-Compare in
    of_two (Emits c.compared.result c.args.body.now c.compared.new.body (expr c.args.t.now.target true c.args.d)) (tree.compare w.o w.u) _ _ _ _ _ (ap expr_of w.is) c.deref-in-Compare.ensures c.deref-in-Compare-2.ensures c.compared.ensures

pub value-returns-in-MoveBy : goal.value-returns-in-MoveBy
value-returns-in-MoveBy t c =
    let w = c.in-MoveBy in
    of_two (Emits c.moved_by.result c.args.body.now c.moved_by.new.body (expr c.args.t.now.target true c.args.d)) (tree.move_by (type_of w.u)) _ _ _ _ _ (ap expr_of w.is) c.deref-in-MoveBy.ensures c.deref-in-MoveBy-2.ensures c.moved_by.ensures

pub value-returns-in-Difference : goal.value-returns-in-Difference
value-returns-in-Difference t c =
    let w = c.in-Difference in
    of_two (Emits c.difference.result c.args.body.now c.difference.new.body (expr c.args.t.now.target true c.args.d)) (tree.difference (type_of w.u)) _ _ _ _ _ (ap expr_of w.is) c.deref-in-Difference.ensures c.deref-in-Difference-2.ensures c.difference.ensures

pub value-returns-in-SameFunction : goal.value-returns-in-SameFunction
value-returns-in-SameFunction t c =
    let w = c.in-SameFunction in
    of_two (Emits c.functions_compared.result c.args.body.now c.functions_compared.new.body (expr c.args.t.now.target true c.args.d)) (tree.same_function w.same) _ _ _ _ _ (ap expr_of w.is) c.deref-in-SameFunction.ensures c.deref-in-SameFunction-2.ensures c.functions_compared.ensures

pub value-returns-in-And : goal.value-returns-in-And
value-returns-in-And t c =
    let w = c.in-And in
    of_two (Emits c.and.result c.args.body.now c.and.new.body (expr c.args.t.now.target true c.args.d)) (tree.and) _ _ _ _ _ (ap expr_of w.is) c.deref-in-And.ensures c.deref-in-And-2.ensures c.and.ensures

pub value-returns-in-Or : goal.value-returns-in-Or
value-returns-in-Or t c =
    let w = c.in-Or in
    of_two (Emits c.or.result c.args.body.now c.or.new.body (expr c.args.t.now.target true c.args.d)) (tree.or) _ _ _ _ _ (ap expr_of w.is) c.deref-in-Or.ensures c.deref-in-Or-2.ensures c.or.ensures

pub value-returns-in-Choose : goal.value-returns-in-Choose
value-returns-in-Choose t c =
    let w = c.in-Choose in
    of_three (Emits c.choose.result c.args.body.now c.choose.new.body (expr c.args.t.now.target true c.args.d)) (tree.choose w.s) _ _ _ _ _ _ _ (ap expr_of w.is) c.deref-in-Choose.ensures c.deref-in-Choose-2.ensures c.deref-in-Choose-3.ensures c.choose.ensures

pub value-returns-in-Assign : goal.value-returns-in-Assign
value-returns-in-Assign t c =
    let w = c.in-Assign in
    of_place (Emits c.assign.result c.args.body.now c.assign.new.body (expr c.args.t.now.target true c.args.d)) (tree.assign w.s) _ _ _ _ _ (ap expr_of w.is) c.deref-in-Assign.ensures c.deref-in-Assign-2.ensures c.assign.ensures

pub value-returns-in-Update : goal.value-returns-in-Update
value-returns-in-Update t c =
    let w = c.in-Update in
    of_place (Emits c.update.result c.args.body.now c.update.new.body (expr c.args.t.now.target true c.args.d)) (tree.update w.old w.u w.o w.v) _ _ _ _ _ (ap expr_of w.is) c.deref-in-Update.ensures c.deref-in-Update-2.ensures c.update.ensures

pub value-returns-in-Copy : goal.value-returns-in-Copy
value-returns-in-Copy t c =
    let w = c.in-Copy in
    of_places (Emits c.copy.result c.args.body.now c.copy.new.body (expr c.args.t.now.target true c.args.d)) (tree.copy w.n) _ _ _ _ _ (ap expr_of w.is) c.deref-in-Copy.ensures c.deref-in-Copy-2.ensures c.copy.ensures

pub value-returns-in-SizeOf : goal.value-returns-in-SizeOf
value-returns-in-SizeOf t c =
    let w = c.in-SizeOf in
    let h = c.constant-in-SizeOf.ensures in
    at_size (Emits c.constant-in-SizeOf.result c.args.body.now c.constant-in-SizeOf.new.body (expr c.args.t.now.target true c.args.d)) c.args.e.now w.n w.field-1 w.is (λ p. h) (λ e. h) h

pub value-call-requires : goal.value-call-requires
value-call-requires t c =
    let w = c.in-Call in
    let nodes = call_nodes c.args.e.now w.n w.field-1 w.es c.deref-in-Call.result.now w.is c.deref-in-Call.ensures.value in
    let bound = c.decreases in
    omega (arith, nodes, bound)

pub value-returns-in-Call : goal.value-returns-in-Call
value-returns-in-Call t c =
    let w = c.in-Call in
    of_list (Emits c.call.result c.args.body.now c.call.new.body (expr c.args.t.now.target true c.args.d)) (tree.call w.n w.field-1) _ _ _ (ap expr_of w.is ∙ call_is w.n w.field-1 w.es) c.deref-in-Call.ensures.value c.call.ensures

pub value-call_through-requires : goal.value-call_through-requires
value-call_through-requires t c =
    let w = c.in-CallThrough in
    let nodes = call_through_nodes c.args.e.now w.u w.field-1 w.f c.deref-in-CallThrough.result.now w.es c.deref-in-CallThrough-2.result.now w.is c.deref-in-CallThrough.ensures c.deref-in-CallThrough-2.ensures.value in
    let bound = c.decreases in
    omega (arith, nodes, bound)

pub value-returns-in-CallThrough : goal.value-returns-in-CallThrough
value-returns-in-CallThrough t c =
    let w = c.in-CallThrough in
    of_function (Emits c.call_through.result c.args.body.now c.call_through.new.body (expr c.args.t.now.target true c.args.d)) (tree.call_through (type_of w.u) w.field-1) _ _ _ _ _ (ap expr_of w.is ∙ call_through_is w.u w.field-1 w.f w.es) c.deref-in-CallThrough.ensures c.deref-in-CallThrough-2.ensures.value c.call_through.ensures

pub thrown-returns-in-Assign : goal.thrown-returns-in-Assign
thrown-returns-in-Assign t c =
    let w = c.in-Assign in
    of_place (Emits c.assign.result c.args.body.now c.assign.new.body (expr c.args.t.now.target false c.args.d)) (tree.assign w.s) _ _ _ _ _ (ap expr_of w.is) c.deref-in-Assign.ensures c.deref-in-Assign-2.ensures c.assign.ensures

pub thrown-returns-in-Update : goal.thrown-returns-in-Update
thrown-returns-in-Update t c =
    let w = c.in-Update in
    of_place (Emits c.update_to_new.result c.args.body.now c.update_to_new.new.body (expr c.args.t.now.target false c.args.d)) (tree.update w.field-0 w.u w.o w.v) _ _ _ _ _ (ap expr_of w.is) c.deref-in-Update.ensures c.deref-in-Update-2.ensures c.update_to_new.ensures

pub thrown-returns-in-Advance : goal.thrown-returns-in-Advance
thrown-returns-in-Advance t c =
    let w = c.in-Advance in
    of_place (Emits c.advance_to_new.result c.args.body.now c.advance_to_new.new.body (expr c.args.t.now.target false c.args.d)) (tree.advance w.field-0 (type_of w.u) w.back) _ _ _ _ _ (ap expr_of w.is) c.deref-in-Advance.ensures c.deref-in-Advance-2.ensures c.advance_to_new.ensures

pub thrown-returns-in-Choose : goal.thrown-returns-in-Choose
thrown-returns-in-Choose t c =
    let w = c.in-Choose in
    of_left (λ x. OnOk c.left.result (Adds c.args.body.now c.left.new.body x)) c.args.t.now.target c.args.d w.s _ _ (ap expr_of w.is) refl c.left.ensures

pub thrown-returns-in-Call : goal.thrown-returns-in-Call
thrown-returns-in-Call t c =
    let w = c.in-Call in
    of_left (λ x. OnOk c.left-in-Call.result (Adds c.args.body.now c.left-in-Call.new.body x)) c.args.t.now.target c.args.d w.s _ _ (ap expr_of w.is) refl c.left-in-Call.ensures

pub thrown-returns-in-CallThrough : goal.thrown-returns-in-CallThrough
thrown-returns-in-CallThrough t c =
    let w = c.in-CallThrough in
    of_left (λ x. OnOk c.left-in-CallThrough.result (Adds c.args.body.now c.left-in-CallThrough.new.body x)) c.args.t.now.target c.args.d w.s _ _ (ap expr_of w.is) refl c.left-in-CallThrough.ensures

pub and-end-requires : goal.and-end-requires
and-end-requires t c =
    second_may_end _ _ _ _ _ _ _ _ c.in_ok-begin.ensures c.in_ok-as_bit.ensures c.turn.ensures c.in_ok-constant.ensures

pub and-returns : goal.and-returns
and-returns t c =
    then_if _ _ _ _ _ _ _ _ _ _ _ _ _ _ c.in_ok-value.ensures c.in_ok-begin.ensures c.in_ok-as_bit.ensures c.turn.ensures c.in_ok-constant.ensures c.end.ensures

pub or-end-requires : goal.or-end-requires
or-end-requires t c =
    second_may_end _ _ _ _ _ _ _ _ c.in_ok-begin.ensures c.in_ok-constant.ensures c.turn.ensures c.in_ok-as_bit.ensures

pub or-returns : goal.or-returns
or-returns t c =
    then_if _ _ _ _ _ _ _ _ _ _ _ _ _ _ c.in_ok-value.ensures c.in_ok-begin.ensures c.in_ok-constant.ensures c.turn.ensures c.in_ok-as_bit.ensures c.end.ensures

pub choose-end-requires : goal.choose-end-requires
choose-end-requires t c =
    second_may_end _ _ _ _ _ _ _ _ c.in_ok-begin_choice.ensures c.in_ok-value-2.ensures c.turn.ensures c.in_ok-value-3.ensures

pub choose-returns : goal.choose-returns
choose-returns t c =
    then_if _ _ _ _ _ _ _ _ _ _ _ _ _ _ c.in_ok-value.ensures c.in_ok-begin_choice.ensures c.in_ok-value-2.ensures c.turn.ensures c.in_ok-value-3.ensures c.end.ensures

pub update-returns-then-old : goal.update-returns-then-old
update-returns-then-old t c =
    by_flag (λ b. OnOk c.update_over_old.result (Adds c.args.body.now c.update_over_old.new.body (expr c.args.t.now.target true c.args.d (tree.update b c.args.u c.args.o c.args.v (place_of c.args.p.now) (expr_of c.args.e.now))))) c.args.old true c.if-old.true c.update_over_old.ensures

pub update-returns-else-old : goal.update-returns-else-old
update-returns-else-old t c =
    by_flag (λ b. OnOk c.update_to_new.result (Adds c.args.body.now c.update_to_new.new.body (expr c.args.t.now.target true c.args.d (tree.update b c.args.u c.args.o c.args.v (place_of c.args.p.now) (expr_of c.args.e.now))))) c.args.old false c.if-old.false c.update_to_new.ensures

pub advance-returns-then-old : goal.advance-returns-then-old
advance-returns-then-old t c =
    by_flag (λ b. OnOk c.advance_over_old.result (Adds c.args.body.now c.advance_over_old.new.body (expr c.args.t.now.target true c.args.d (tree.advance b (type_of c.args.u.now) c.args.back (place_of c.args.p.now) (expr_of c.args.e.now))))) c.args.old true c.if-old.true c.advance_over_old.ensures

pub advance-returns-else-old : goal.advance-returns-else-old
advance-returns-else-old t c =
    by_flag (λ b. OnOk c.advance_to_new.result (Adds c.args.body.now c.advance_to_new.new.body (expr c.args.t.now.target true c.args.d (tree.advance b (type_of c.args.u.now) c.args.back (place_of c.args.p.now) (expr_of c.args.e.now))))) c.args.old false c.if-old.false c.advance_to_new.ensures

pub pointers_compared-returns-in-Less : goal.pointers_compared-returns-in-Less
pointers_compared-returns-in-Less t c =
    subst (λ (r : RelOp). OnOk c.pointers_ordered.result (Adds c.args.body.now c.pointers_ordered.new.body (expr c.args.t.now.target true c.args.d (tree.compare_pointers r (expr_of c.args.a.now) (expr_of c.args.b.now))))) (sym c.in-Less.is) c.pointers_ordered.ensures

pub pointers_compared-returns-in-LessEqual : goal.pointers_compared-returns-in-LessEqual
pointers_compared-returns-in-LessEqual t c =
    subst (λ (r : RelOp). OnOk c.pointers_ordered-in-LessEqual.result (Adds c.args.body.now c.pointers_ordered-in-LessEqual.new.body (expr c.args.t.now.target true c.args.d (tree.compare_pointers r (expr_of c.args.a.now) (expr_of c.args.b.now))))) (sym c.in-LessEqual.is) c.pointers_ordered-in-LessEqual.ensures

pub pointers_compared-returns-in-Greater : goal.pointers_compared-returns-in-Greater
pointers_compared-returns-in-Greater t c =
    subst (λ (r : RelOp). OnOk c.pointers_ordered-in-Greater.result (Adds c.args.body.now c.pointers_ordered-in-Greater.new.body (expr c.args.t.now.target true c.args.d (tree.compare_pointers r (expr_of c.args.a.now) (expr_of c.args.b.now))))) (sym c.in-Greater.is) c.pointers_ordered-in-Greater.ensures

pub pointers_compared-returns-in-GreaterEqual : goal.pointers_compared-returns-in-GreaterEqual
pointers_compared-returns-in-GreaterEqual t c =
    subst (λ (r : RelOp). OnOk c.pointers_ordered-in-GreaterEqual.result (Adds c.args.body.now c.pointers_ordered-in-GreaterEqual.new.body (expr c.args.t.now.target true c.args.d (tree.compare_pointers r (expr_of c.args.a.now) (expr_of c.args.b.now))))) (sym c.in-GreaterEqual.is) c.pointers_ordered-in-GreaterEqual.ensures

pub malloc-returns-in-Number : goal.malloc-returns-in-Number
malloc-returns-in-Number t c =
    let known = c.known_of.ensures.bytes ∙ ap (λ k. bytes_in k) c.in-Number.is in
    let code = expr c.args.t.now.target true c.args.d (expr_of c.args.e.now) in
    subst (λ (n : Option ℕ). OnOk c.new_known.result (Adds c.args.body.now c.new_known.new.body (allocated (size c.args.t.now.target.structs (type_of c.args.u.now)) n code))) (sym known) (c.new_known.ensures code)

pub malloc-returns-in-Size : goal.malloc-returns-in-Size
malloc-returns-in-Size t c =
    let known = c.known_of.ensures.bytes ∙ ap (λ k. bytes_in k) c.in-Size.is ∙ ap (λ (n : ℕ). Some n) (sym c.from.ensures) in
    let code = expr c.args.t.now.target true c.args.d (expr_of c.args.e.now) in
    subst (λ (n : Option ℕ). OnOk c.new_known-in-Size.result (Adds c.args.body.now c.new_known-in-Size.new.body (allocated (size c.args.t.now.target.structs (type_of c.args.u.now)) n code))) (sym known) (c.new_known-in-Size.ensures code)

pub arguments-value-requires : goal.arguments-value-requires
arguments-value-requires t c =
    let es = c.args.es.now in
    let falls = one_falls es c.loop-e.e-index c.e-item.result c.loop-e-test.true c.e-item.is in
    let bound = c.decreases in
    omega (arith, falls, bound)

pub arguments-loop-e-preserved : goal.arguments-loop-e-preserved
arguments-loop-e-preserved t c =
    let es = c.args.es.now in
    let i = c.loop-e.e-index in
    let e = c.e-item.result in
    λ s rest. c.loop-e.invariant s (next_argument c.args.t.now.target c.args.d c.loop-e.body c.value.new.body s e (drop (i + 1) es) (drop i es) (ahead es i e c.loop-e-test.true c.e-item.is) c.in_ok-value.ensures rest)

pub arguments-returns : goal.arguments-returns
arguments-returns t c =
    let es = c.args.es.now in
    let s = c.loop-e.body in
    c.loop-e.invariant s (subst (λ (l : List Expr). Adds s s (exprs c.args.t.now.target c.args.d (exprs_in l))) (sym (drop_all c.loop-e.e-index es c.loop-e-test.false)) (nothing_added s))

pub call_through-returns : goal.call_through-returns
call_through-returns t c =
    then_three _ _ _ _ _ _ _ _ _ _ _ _ c.in_ok-value.ensures c.in_ok-wait.ensures c.in_ok-deeper_arguments.ensures c.call_waiting.ensures

pub calloc-returns : goal.calloc-returns
calloc-returns t c =
    then_three _ _ _ _ _ _ _ _ _ _ _ _ c.in_ok-value.ensures c.in_ok-add.ensures c.in_ok-value-2.ensures c.new_product.ensures

pub change-returns : goal.change-returns
change-returns t c =
    then_three _ _ _ _ _ _ _ _ _ _ _ _ c.in_ok-convert.ensures c.in_ok-value.ensures c.in_ok-operate.ensures c.convert-2.ensures

pub step-returns-then-back : goal.step-returns-then-back
step-returns-then-back t c =
    by_flag (λ b. OnOk c.back_by.result (Adds c.args.body.now c.back_by.new.body (moved (size c.args.t.now.target.structs (type_of c.args.u.now)) b (expr c.args.t.now.target true c.args.d (expr_of c.args.b.now))))) c.args.back true c.if-back.true c.back_by.ensures

pub unary-returns-in-Negate : goal.unary-returns-in-Negate
unary-returns-in-Negate t c =
    subst (λ (o : UnaryOp). OnOk c.negated.result (Adds c.args.body.now c.negated.new.body (expr c.args.t.now.target true c.args.d (tree.unary o c.args.u (expr_of c.args.a.now))))) (sym c.in-Negate.is) c.negated.ensures

pub thrown-returns-in-Number : goal.thrown-returns-in-Number
thrown-returns-in-Number t c = of_left (λ x. OnOk c.dropped.result (Adds c.args.body.now c.dropped.new.body x)) c.args.t.now.target c.args.d (Some scalars.Pointer) _ _ (ap expr_of c.in-Number.is) refl c.dropped.ensures

pub thrown-returns-in-Null : goal.thrown-returns-in-Null
thrown-returns-in-Null t c = of_left (λ x. OnOk c.dropped-in-Null.result (Adds c.args.body.now c.dropped-in-Null.new.body x)) c.args.t.now.target c.args.d (Some scalars.Pointer) _ _ (ap expr_of c.in-Null.is) refl c.dropped-in-Null.ensures

pub thrown-returns-in-NoFunction : goal.thrown-returns-in-NoFunction
thrown-returns-in-NoFunction t c = of_left (λ x. OnOk c.dropped-in-NoFunction.result (Adds c.args.body.now c.dropped-in-NoFunction.new.body x)) c.args.t.now.target c.args.d (Some scalars.Pointer) _ _ (ap expr_of c.in-NoFunction.is) refl c.dropped-in-NoFunction.ensures

pub thrown-returns-in-Function : goal.thrown-returns-in-Function
thrown-returns-in-Function t c = of_left (λ x. OnOk c.dropped-in-Function.result (Adds c.args.body.now c.dropped-in-Function.new.body x)) c.args.t.now.target c.args.d (Some scalars.Pointer) _ _ (ap expr_of c.in-Function.is) refl c.dropped-in-Function.ensures

pub thrown-returns-in-Literal : goal.thrown-returns-in-Literal
thrown-returns-in-Literal t c = of_left (λ x. OnOk c.dropped-in-Literal.result (Adds c.args.body.now c.dropped-in-Literal.new.body x)) c.args.t.now.target c.args.d (Some scalars.Pointer) _ _ (ap expr_of c.in-Literal.is) refl c.dropped-in-Literal.ensures

pub thrown-returns-in-Read : goal.thrown-returns-in-Read
thrown-returns-in-Read t c = of_left (λ x. OnOk c.dropped-in-Read.result (Adds c.args.body.now c.dropped-in-Read.new.body x)) c.args.t.now.target c.args.d (Some scalars.Pointer) _ _ (ap expr_of c.in-Read.is) refl c.dropped-in-Read.ensures

pub thrown-returns-in-Decay : goal.thrown-returns-in-Decay
thrown-returns-in-Decay t c = of_left (λ x. OnOk c.dropped-in-Decay.result (Adds c.args.body.now c.dropped-in-Decay.new.body x)) c.args.t.now.target c.args.d (Some scalars.Pointer) _ _ (ap expr_of c.in-Decay.is) refl c.dropped-in-Decay.ensures

pub thrown-returns-in-Address : goal.thrown-returns-in-Address
thrown-returns-in-Address t c = of_left (λ x. OnOk c.dropped-in-Address.result (Adds c.args.body.now c.dropped-in-Address.new.body x)) c.args.t.now.target c.args.d (Some scalars.Pointer) _ _ (ap expr_of c.in-Address.is) refl c.dropped-in-Address.ensures

pub thrown-returns-in-Truth : goal.thrown-returns-in-Truth
thrown-returns-in-Truth t c = of_left (λ x. OnOk c.dropped-in-Truth.result (Adds c.args.body.now c.dropped-in-Truth.new.body x)) c.args.t.now.target c.args.d (Some scalars.Pointer) _ _ (ap expr_of c.in-Truth.is) refl c.dropped-in-Truth.ensures

pub thrown-returns-in-Not : goal.thrown-returns-in-Not
thrown-returns-in-Not t c = of_left (λ x. OnOk c.dropped-in-Not.result (Adds c.args.body.now c.dropped-in-Not.new.body x)) c.args.t.now.target c.args.d (Some scalars.Pointer) _ _ (ap expr_of c.in-Not.is) refl c.dropped-in-Not.ensures

pub thrown-returns-in-Unary : goal.thrown-returns-in-Unary
thrown-returns-in-Unary t c =
    let w = c.in-Unary in
    let q = c.dropped-in-Unary in
    subst (λ (e : Expr). OnOk q.result (Adds c.args.body.now q.new.body (expr c.args.t.now.target true c.args.d (expr_of e) ⨾ one Drop)) → OnOk q.result (Adds c.args.body.now q.new.body (expr c.args.t.now.target false c.args.d (expr_of e)))) (sym w.is)
    (of_unary (λ x. OnOk q.result (Adds c.args.body.now q.new.body x)) c.args.t.now.target c.args.d w.field-0 w.field-1 (expr_of w.field-2.value)) q.ensures

pub thrown-returns-in-SizeOf : goal.thrown-returns-in-SizeOf
thrown-returns-in-SizeOf t c =
    let w = c.in-SizeOf in
    let q = c.dropped-in-SizeOf in
    at_size (λ x. OnOk q.result (Adds c.args.body.now q.new.body (expr c.args.t.now.target true c.args.d x ⨾ one Drop)) → OnOk q.result (Adds c.args.body.now q.new.body (expr c.args.t.now.target false c.args.d x)))
    c.args.e.now w.field-0 w.field-1 w.is (λ p h. h) (λ e h. h) (λ h. h) q.ensures

pub thrown-returns-in-Convert : goal.thrown-returns-in-Convert
thrown-returns-in-Convert t c = of_left (λ x. OnOk c.dropped-in-Convert.result (Adds c.args.body.now c.dropped-in-Convert.new.body x)) c.args.t.now.target c.args.d (Some scalars.Pointer) _ _ (ap expr_of c.in-Convert.is) refl c.dropped-in-Convert.ensures

pub thrown-returns-in-Binary : goal.thrown-returns-in-Binary
thrown-returns-in-Binary t c = of_left (λ x. OnOk c.dropped-in-Binary.result (Adds c.args.body.now c.dropped-in-Binary.new.body x)) c.args.t.now.target c.args.d (Some scalars.Pointer) _ _ (ap expr_of c.in-Binary.is) refl c.dropped-in-Binary.ensures

pub thrown-returns-in-Compare : goal.thrown-returns-in-Compare
thrown-returns-in-Compare t c = of_left (λ x. OnOk c.dropped-in-Compare.result (Adds c.args.body.now c.dropped-in-Compare.new.body x)) c.args.t.now.target c.args.d (Some scalars.Pointer) _ _ (ap expr_of c.in-Compare.is) refl c.dropped-in-Compare.ensures

pub thrown-returns-in-Move : goal.thrown-returns-in-Move
thrown-returns-in-Move t c = of_left (λ x. OnOk c.dropped-in-Move.result (Adds c.args.body.now c.dropped-in-Move.new.body x)) c.args.t.now.target c.args.d (Some scalars.Pointer) _ _ (ap expr_of c.in-Move.is) refl c.dropped-in-Move.ensures

pub thrown-returns-in-MoveBy : goal.thrown-returns-in-MoveBy
thrown-returns-in-MoveBy t c = of_left (λ x. OnOk c.dropped-in-MoveBy.result (Adds c.args.body.now c.dropped-in-MoveBy.new.body x)) c.args.t.now.target c.args.d (Some scalars.Pointer) _ _ (ap expr_of c.in-MoveBy.is) refl c.dropped-in-MoveBy.ensures

pub thrown-returns-in-Difference : goal.thrown-returns-in-Difference
thrown-returns-in-Difference t c = of_left (λ x. OnOk c.dropped-in-Difference.result (Adds c.args.body.now c.dropped-in-Difference.new.body x)) c.args.t.now.target c.args.d (Some scalars.Pointer) _ _ (ap expr_of c.in-Difference.is) refl c.dropped-in-Difference.ensures

pub thrown-returns-in-ComparePointers : goal.thrown-returns-in-ComparePointers
thrown-returns-in-ComparePointers t c = of_left (λ x. OnOk c.dropped-in-ComparePointers.result (Adds c.args.body.now c.dropped-in-ComparePointers.new.body x)) c.args.t.now.target c.args.d (Some scalars.Pointer) _ _ (ap expr_of c.in-ComparePointers.is) refl c.dropped-in-ComparePointers.ensures

pub thrown-returns-in-SameFunction : goal.thrown-returns-in-SameFunction
thrown-returns-in-SameFunction t c = of_left (λ x. OnOk c.dropped-in-SameFunction.result (Adds c.args.body.now c.dropped-in-SameFunction.new.body x)) c.args.t.now.target c.args.d (Some scalars.Pointer) _ _ (ap expr_of c.in-SameFunction.is) refl c.dropped-in-SameFunction.ensures

pub thrown-returns-in-And : goal.thrown-returns-in-And
thrown-returns-in-And t c = of_left (λ x. OnOk c.dropped-in-And.result (Adds c.args.body.now c.dropped-in-And.new.body x)) c.args.t.now.target c.args.d (Some scalars.Pointer) _ _ (ap expr_of c.in-And.is) refl c.dropped-in-And.ensures

pub thrown-returns-in-Or : goal.thrown-returns-in-Or
thrown-returns-in-Or t c = of_left (λ x. OnOk c.dropped-in-Or.result (Adds c.args.body.now c.dropped-in-Or.new.body x)) c.args.t.now.target c.args.d (Some scalars.Pointer) _ _ (ap expr_of c.in-Or.is) refl c.dropped-in-Or.ensures

pub thrown-returns-in-Putchar : goal.thrown-returns-in-Putchar
thrown-returns-in-Putchar t c = of_left (λ x. OnOk c.dropped-in-Putchar.result (Adds c.args.body.now c.dropped-in-Putchar.new.body x)) c.args.t.now.target c.args.d (Some scalars.Pointer) _ _ (ap expr_of c.in-Putchar.is) refl c.dropped-in-Putchar.ensures

pub thrown-returns-in-Getchar : goal.thrown-returns-in-Getchar
thrown-returns-in-Getchar t c = of_left (λ x. OnOk c.dropped-in-Getchar.result (Adds c.args.body.now c.dropped-in-Getchar.new.body x)) c.args.t.now.target c.args.d (Some scalars.Pointer) _ _ (ap expr_of c.in-Getchar.is) refl c.dropped-in-Getchar.ensures

pub thrown-returns-in-Malloc : goal.thrown-returns-in-Malloc
thrown-returns-in-Malloc t c = of_left (λ x. OnOk c.dropped-in-Malloc.result (Adds c.args.body.now c.dropped-in-Malloc.new.body x)) c.args.t.now.target c.args.d (Some scalars.Pointer) _ _ (ap expr_of c.in-Malloc.is) refl c.dropped-in-Malloc.ensures

pub thrown-returns-in-Calloc : goal.thrown-returns-in-Calloc
thrown-returns-in-Calloc t c = of_left (λ x. OnOk c.dropped-in-Calloc.result (Adds c.args.body.now c.dropped-in-Calloc.new.body x)) c.args.t.now.target c.args.d (Some scalars.Pointer) _ _ (ap expr_of c.in-Calloc.is) refl c.dropped-in-Calloc.ensures
