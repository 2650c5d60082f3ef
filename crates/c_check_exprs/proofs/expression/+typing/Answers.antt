use Rattle.std.proofs.Common.{◌≡◌, ◌∙◌, ◌+◌, ◌<◌, [], None, ap, sym, subst, arith}
use Rattle.c_types.specs.Types.{Ty, type_of}
use Rattle.c_types.specs.refinement.Views.{types_in}
use Rattle.c_tree.specs.Tree.{Exprs}
use Rattle.c_tree.specs.refinement.Views.{expr_nodes, exprs_nodes}
use Rattle.c_typed.specs.refinement.Views.{expr_of}
use Rattle.c_check_types.proofs.TypeLists.{function_is}
use Rattle.c_check_types.specs.TypeEquality.{tys_of}
use Rattle.c_check_types.specs.refinement.Views.{Obeys, state_of}
use Rattle.c_check_exprs.specs.Expressions.{arguments, called, factors, multiplying, sole, typing}
use Rattle.c_typed.specs.refinement.FormViews.{form_of}
use Rattle.c_check_types.proofs.Rules.{answered}
use Rattle.c_check_exprs.proofs.Arguments.{differ, one_falls, sole_is, sole_isnt, factors_are, factors_arent, two_fall}
use Rattle.c_check_exprs.proofs.expression.+typing.Goals as goal

pub arguments-returns-then-items-types : goal.arguments-returns-then-items-types
arguments-returns-then-items-types n c =
    let s = state_of c.args.checker.now in
    subst (λ (es : Exprs). arguments es (tys_of (types_in c.args.types.now)) [] s ≡ None) c.items-items.ensures (differ c.items-items.result.now c.args.types.now c.if-items-types.true [] s)

pub arguments-typed_as-requires : goal.arguments-typed_as-requires
arguments-typed_as-requires n c =
    let e = c.index-items-i.result in
    let falls = one_falls c.items-items.result.now c.loop-i.i e c.loop-i-test.true c.index-items-i.is in
    let less = subst (λ (es : Exprs). expr_nodes e < exprs_nodes es) c.items-items.ensures falls in
    let bound = c.decreases in
    (omega (arith, less, bound), tt)

pub sole-returns-then-items-ne1 : goal.sole-returns-then-items-ne1
sole-returns-then-items-ne1 n c =
    let s = state_of c.args.checker.now in
    subst (λ (es : Exprs). sole es s ≡ None) c.items-items.ensures (sole_isnt c.items-items.result.now c.if-items-ne1.true s)

pub sole-returns : goal.sole-returns
sole-returns n c =
    let s = state_of c.args.checker.now in
    let e = c.index-items-0.result in
    answered form_of (sole c.args.es.now) (typing e) s (state_of c.typing.new.checker) c.typing.result
    (subst (λ (es : Exprs). sole es s ≡ typing e s) c.items-items.ensures (sole_is c.items-items.result.now e c.if-items-ne1.false c.index-items-0.is s)) c.typing.ensures

pub called-returns-in-Function : goal.called-returns-in-Function
called-returns-in-Function n c =
    let same = ap (λ t. type_of t) c.in-Function.is ∙ function_is c.in-Function.s in
    subst (λ (u : Ty). Obeys form_of (called (expr_of c.args.e.value, u) (λ ts. arguments c.args.es.now ts [])) (state_of c.args.checker.now) (state_of c.called_function.new.checker) c.called_function.result) (sym same) c.called_function.ensures

pub factors-returns-then-items-ne2 : goal.factors-returns-then-items-ne2
factors-returns-then-items-ne2 n c =
    let s = state_of c.args.checker.now in
    subst (λ (es : Exprs). factors es s ≡ None) c.items-items.ensures (factors_arent c.items-items.result.now c.if-items-ne2.true s)

pub factors-multiplying-requires : goal.factors-multiplying-requires
factors-multiplying-requires n c =
    let a = c.index-items-0.result in
    let b = c.index-items-1.result in
    let falls = two_fall c.items-items.result.now a b c.if-items-ne2.false c.index-items-0.is c.index-items-1.is in
    let less = subst (λ (es : Exprs). expr_nodes a + expr_nodes b < exprs_nodes es) c.items-items.ensures falls in
    let bound = c.decreases in
    (omega (arith, less, bound), tt)

pub factors-returns : goal.factors-returns
factors-returns n c =
    let s = state_of c.args.checker.now in
    let a = c.index-items-0.result in
    let b = c.index-items-1.result in
    answered form_of (factors c.args.es.now) (multiplying (typing a) (typing b)) s (state_of c.multiplying.new.checker) c.multiplying.result
    (subst (λ (es : Exprs). factors es s ≡ multiplying (typing a) (typing b) s) c.items-items.ensures (factors_are c.items-items.result.now a b c.if-items-ne2.false c.index-items-0.is c.index-items-1.is s)) c.multiplying.ensures
