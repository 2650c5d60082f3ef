use Rattle.std.proofs.Common.{◌≡◌, ◌||◌, ◌+◌, drop, subst, sym}
use Rattle.std.proofs.lemmas.List.{drop_all}
use Rattle.c_typed.specs.Objects.{in_expr}
use Rattle.c_typed.specs.Tree as to
use Rattle.c_place.specs.refinement.Marks.{marked}
use Rattle.c_place.proofs.Lists.{call_is, call_through_is}
use Rattle.c_place.proofs.Marking.{ahead, at_same, both, by_expr, by_exprs, by_place, by_sized, exprs_end, exprs_step, marked_none, of_same}
use Rattle.c_place.proofs.walk.+marking.Goals as goal

pub place-returns-in-Of : goal.place-returns-in-Of
place-returns-in-Of t c = let m = c.args.marks.now in at_same by_place m m c.in-Of.is (marked_none m)

pub expr-returns-in-Number : goal.expr-returns-in-Number
expr-returns-in-Number t c = let m = c.args.marks.now in at_same by_expr m m c.in-Number.is (marked_none m)

pub expr-returns-in-Null : goal.expr-returns-in-Null
expr-returns-in-Null t c = let m = c.args.marks.now in at_same by_expr m m c.in-Null.is (marked_none m)

pub expr-returns-in-NoFunction : goal.expr-returns-in-NoFunction
expr-returns-in-NoFunction t c = let m = c.args.marks.now in at_same by_expr m m c.in-NoFunction.is (marked_none m)

pub expr-returns-in-Function : goal.expr-returns-in-Function
expr-returns-in-Function t c = let m = c.args.marks.now in at_same by_expr m m c.in-Function.is (marked_none m)

pub expr-returns-in-Literal : goal.expr-returns-in-Literal
expr-returns-in-Literal t c = let m = c.args.marks.now in at_same by_expr m m c.in-Literal.is (marked_none m)

pub expr-returns-in-Getchar : goal.expr-returns-in-Getchar
expr-returns-in-Getchar t c = let m = c.args.marks.now in at_same by_expr m m c.in-Getchar.is (marked_none m)

pub expr-returns-in-Abort : goal.expr-returns-in-Abort
expr-returns-in-Abort t c = let m = c.args.marks.now in at_same by_expr m m c.in-Abort.is (marked_none m)

pub expr-returns-in-SizeOf : goal.expr-returns-in-SizeOf
expr-returns-in-SizeOf t c =
    at_same by_expr c.args.marks.now c.sized.new.marks c.in-SizeOf.is (c.sized.ensures c.in-SizeOf.field-0)

pub sized-returns-in-Nothing : goal.sized-returns-in-Nothing
sized-returns-in-Nothing t c = λ n. let m = c.args.marks.now in at_same (by_sized n) m m c.in-Nothing.is (marked_none m)

pub expr-returns-in-Binary : goal.expr-returns-in-Binary
expr-returns-in-Binary t c =
    let m = c.args.marks.now in
    let m1 = c.expr-in-Binary.new.marks in
    let m2 = c.expr-in-Binary-2.new.marks in
    at_same by_expr m m2 c.in-Binary.is
    (both (by_expr c.in-Binary.a.value) (by_expr c.in-Binary.b.value) m m1 m2
    (of_same by_expr m m1 c.deref-in-Binary.ensures c.expr-in-Binary.ensures) (of_same by_expr m1 m2 c.deref-in-Binary-2.ensures c.expr-in-Binary-2.ensures))

pub expr-returns-in-Compare : goal.expr-returns-in-Compare
expr-returns-in-Compare t c =
    let m = c.args.marks.now in
    let m1 = c.expr-in-Compare.new.marks in
    let m2 = c.expr-in-Compare-2.new.marks in
    at_same by_expr m m2 c.in-Compare.is
    (both (by_expr c.in-Compare.a.value) (by_expr c.in-Compare.b.value) m m1 m2
    (of_same by_expr m m1 c.deref-in-Compare.ensures c.expr-in-Compare.ensures) (of_same by_expr m1 m2 c.deref-in-Compare-2.ensures c.expr-in-Compare-2.ensures))

pub expr-returns-in-ComparePointers : goal.expr-returns-in-ComparePointers
expr-returns-in-ComparePointers t c =
    let m = c.args.marks.now in
    let m1 = c.expr-in-ComparePointers.new.marks in
    let m2 = c.expr-in-ComparePointers-2.new.marks in
    at_same by_expr m m2 c.in-ComparePointers.is
    (both (by_expr c.in-ComparePointers.a.value) (by_expr c.in-ComparePointers.b.value) m m1 m2
    (of_same by_expr m m1 c.deref-in-ComparePointers.ensures c.expr-in-ComparePointers.ensures) (of_same by_expr m1 m2 c.deref-in-ComparePointers-2.ensures c.expr-in-ComparePointers-2.ensures))

pub expr-returns-in-SameFunction : goal.expr-returns-in-SameFunction
expr-returns-in-SameFunction t c =
    let m = c.args.marks.now in
    let m1 = c.expr-in-SameFunction.new.marks in
    let m2 = c.expr-in-SameFunction-2.new.marks in
    at_same by_expr m m2 c.in-SameFunction.is
    (both (by_expr c.in-SameFunction.a.value) (by_expr c.in-SameFunction.b.value) m m1 m2
    (of_same by_expr m m1 c.deref-in-SameFunction.ensures c.expr-in-SameFunction.ensures) (of_same by_expr m1 m2 c.deref-in-SameFunction-2.ensures c.expr-in-SameFunction-2.ensures))

pub expr-returns-in-Difference : goal.expr-returns-in-Difference
expr-returns-in-Difference t c =
    let m = c.args.marks.now in
    let m1 = c.expr-in-Difference.new.marks in
    let m2 = c.expr-in-Difference-2.new.marks in
    at_same by_expr m m2 c.in-Difference.is
    (both (by_expr c.in-Difference.a.value) (by_expr c.in-Difference.b.value) m m1 m2
    (of_same by_expr m m1 c.deref-in-Difference.ensures c.expr-in-Difference.ensures) (of_same by_expr m1 m2 c.deref-in-Difference-2.ensures c.expr-in-Difference-2.ensures))

pub expr-returns-in-Move : goal.expr-returns-in-Move
expr-returns-in-Move t c =
    let m = c.args.marks.now in
    let m1 = c.expr-in-Move.new.marks in
    let m2 = c.expr-in-Move-2.new.marks in
    at_same by_expr m m2 c.in-Move.is
    (both (by_expr c.in-Move.a.value) (by_expr c.in-Move.b.value) m m1 m2
    (of_same by_expr m m1 c.deref-in-Move.ensures c.expr-in-Move.ensures) (of_same by_expr m1 m2 c.deref-in-Move-2.ensures c.expr-in-Move-2.ensures))

pub expr-returns-in-MoveBy : goal.expr-returns-in-MoveBy
expr-returns-in-MoveBy t c =
    let m = c.args.marks.now in
    let m1 = c.expr-in-MoveBy.new.marks in
    let m2 = c.expr-in-MoveBy-2.new.marks in
    at_same by_expr m m2 c.in-MoveBy.is
    (both (by_expr c.in-MoveBy.a.value) (by_expr c.in-MoveBy.b.value) m m1 m2
    (of_same by_expr m m1 c.deref-in-MoveBy.ensures c.expr-in-MoveBy.ensures) (of_same by_expr m1 m2 c.deref-in-MoveBy-2.ensures c.expr-in-MoveBy-2.ensures))

pub expr-returns-in-And : goal.expr-returns-in-And
expr-returns-in-And t c =
    let m = c.args.marks.now in
    let m1 = c.expr-in-And.new.marks in
    let m2 = c.expr-in-And-2.new.marks in
    at_same by_expr m m2 c.in-And.is
    (both (by_expr c.in-And.a.value) (by_expr c.in-And.b.value) m m1 m2
    (of_same by_expr m m1 c.deref-in-And.ensures c.expr-in-And.ensures) (of_same by_expr m1 m2 c.deref-in-And-2.ensures c.expr-in-And-2.ensures))

pub expr-returns-in-Or : goal.expr-returns-in-Or
expr-returns-in-Or t c =
    let m = c.args.marks.now in
    let m1 = c.expr-in-Or.new.marks in
    let m2 = c.expr-in-Or-2.new.marks in
    at_same by_expr m m2 c.in-Or.is
    (both (by_expr c.in-Or.a.value) (by_expr c.in-Or.b.value) m m1 m2
    (of_same by_expr m m1 c.deref-in-Or.ensures c.expr-in-Or.ensures) (of_same by_expr m1 m2 c.deref-in-Or-2.ensures c.expr-in-Or-2.ensures))

pub expr-returns-in-Comma : goal.expr-returns-in-Comma
expr-returns-in-Comma t c =
    let m = c.args.marks.now in
    let m1 = c.expr-in-Comma.new.marks in
    let m2 = c.expr-in-Comma-2.new.marks in
    at_same by_expr m m2 c.in-Comma.is
    (both (by_expr c.in-Comma.a.value) (by_expr c.in-Comma.b.value) m m1 m2
    (of_same by_expr m m1 c.deref-in-Comma.ensures c.expr-in-Comma.ensures) (of_same by_expr m1 m2 c.deref-in-Comma-2.ensures c.expr-in-Comma-2.ensures))

pub expr-returns-in-Calloc : goal.expr-returns-in-Calloc
expr-returns-in-Calloc t c =
    let m = c.args.marks.now in
    let m1 = c.expr-in-Calloc.new.marks in
    let m2 = c.expr-in-Calloc-2.new.marks in
    at_same by_expr m m2 c.in-Calloc.is
    (both (by_expr c.in-Calloc.a.value) (by_expr c.in-Calloc.b.value) m m1 m2
    (of_same by_expr m m1 c.deref-in-Calloc.ensures c.expr-in-Calloc.ensures) (of_same by_expr m1 m2 c.deref-in-Calloc-2.ensures c.expr-in-Calloc-2.ensures))

pub expr-returns-in-Assign : goal.expr-returns-in-Assign
expr-returns-in-Assign t c =
    let m = c.args.marks.now in
    let m1 = c.place-in-Assign.new.marks in
    let m2 = c.expr-in-Assign.new.marks in
    at_same by_expr m m2 c.in-Assign.is
    (both (by_place c.in-Assign.p.value) (by_expr c.in-Assign.a.value) m m1 m2
    (of_same by_place m m1 c.deref-in-Assign.ensures c.place-in-Assign.ensures) (of_same by_expr m1 m2 c.deref-in-Assign-2.ensures c.expr-in-Assign.ensures))

pub expr-returns-in-Update : goal.expr-returns-in-Update
expr-returns-in-Update t c =
    let m = c.args.marks.now in
    let m1 = c.place-in-Update.new.marks in
    let m2 = c.expr-in-Update.new.marks in
    at_same by_expr m m2 c.in-Update.is
    (both (by_place c.in-Update.p.value) (by_expr c.in-Update.a.value) m m1 m2
    (of_same by_place m m1 c.deref-in-Update.ensures c.place-in-Update.ensures) (of_same by_expr m1 m2 c.deref-in-Update-2.ensures c.expr-in-Update.ensures))

pub expr-returns-in-Advance : goal.expr-returns-in-Advance
expr-returns-in-Advance t c =
    let m = c.args.marks.now in
    let m1 = c.place-in-Advance.new.marks in
    let m2 = c.expr-in-Advance.new.marks in
    at_same by_expr m m2 c.in-Advance.is
    (both (by_place c.in-Advance.p.value) (by_expr c.in-Advance.a.value) m m1 m2
    (of_same by_place m m1 c.deref-in-Advance.ensures c.place-in-Advance.ensures) (of_same by_expr m1 m2 c.deref-in-Advance-2.ensures c.expr-in-Advance.ensures))

pub expr-returns-in-Copy : goal.expr-returns-in-Copy
expr-returns-in-Copy t c =
    let m = c.args.marks.now in
    let m1 = c.place-in-Copy.new.marks in
    let m2 = c.place-in-Copy-2.new.marks in
    at_same by_expr m m2 c.in-Copy.is
    (both (by_place c.in-Copy.p.value) (by_place c.in-Copy.q.value) m m1 m2
    (of_same by_place m m1 c.deref-in-Copy.ensures c.place-in-Copy.ensures) (of_same by_place m1 m2 c.deref-in-Copy-2.ensures c.place-in-Copy-2.ensures))

pub expr-returns-in-Choose : goal.expr-returns-in-Choose
expr-returns-in-Choose t c =
    let m = c.args.marks.now in
    let m1 = c.expr-in-Choose.new.marks in
    let m2 = c.expr-in-Choose-2.new.marks in
    let m3 = c.expr-in-Choose-3.new.marks in
    let x = c.in-Choose.c.value in
    let y = c.in-Choose.a.value in
    let z = c.in-Choose.b.value in
    at_same by_expr m m3 c.in-Choose.is
    (both (by_expr x) (λ v. by_expr y v || by_expr z v) m m1 m3 (of_same by_expr m m1 c.deref-in-Choose.ensures c.expr-in-Choose.ensures)
    (both (by_expr y) (by_expr z) m1 m2 m3 (of_same by_expr m1 m2 c.deref-in-Choose-2.ensures c.expr-in-Choose-2.ensures)
    (of_same by_expr m2 m3 c.deref-in-Choose-3.ensures c.expr-in-Choose-3.ensures)))

pub expr-returns-in-Call : goal.expr-returns-in-Call
expr-returns-in-Call t c =
    let m = c.args.marks.now in
    let n = c.exprs.new.marks in
    at_same by_expr m n c.in-Call.is
    (subst (λ (e : to.Expr). n ≡ marked (λ v. in_expr v e) m) (sym (call_is c.in-Call.field-0 c.in-Call.field-1 c.in-Call.es))
    (of_same by_exprs m n c.deref-in-Call.ensures.value c.exprs.ensures))

pub expr-returns-in-CallThrough : goal.expr-returns-in-CallThrough
expr-returns-in-CallThrough t c =
    let m = c.args.marks.now in
    let m1 = c.expr-in-CallThrough.new.marks in
    let m2 = c.exprs-in-CallThrough.new.marks in
    at_same by_expr m m2 c.in-CallThrough.is
    (subst (λ (e : to.Expr). m2 ≡ marked (λ v. in_expr v e) m)
    (sym (call_through_is c.in-CallThrough.field-0 c.in-CallThrough.field-1 c.in-CallThrough.a c.in-CallThrough.es))
    (both (by_expr c.in-CallThrough.a.value) (by_exprs c.in-CallThrough.es.items) m m1 m2
    (of_same by_expr m m1 c.deref-in-CallThrough.ensures c.expr-in-CallThrough.ensures)
    (of_same by_exprs m1 m2 c.deref-in-CallThrough-2.ensures.value c.exprs-in-CallThrough.ensures)))

pub exprs-loop-e-preserved : goal.exprs-loop-e-preserved
exprs-loop-e-preserved t c =
    let es = c.args.es.now in
    let i = c.loop-e.e-index in
    let e = c.e-item.result in
    exprs_step c.loop-e.marks c.expr.new.marks (marked (by_exprs es) c.args.marks.now) e (drop (i + 1) es) (drop i es)
    (ahead es i e c.loop-e-test.true c.e-item.is) c.expr.ensures c.loop-e.invariant

pub exprs-returns : goal.exprs-returns
exprs-returns t c =
    let es = c.args.es.now in
    let i = c.loop-e.e-index in
    exprs_end c.loop-e.marks (marked (by_exprs es) c.args.marks.now) (drop i es) (drop_all i es c.loop-e-test.false) c.loop-e.invariant
