use Rattle.std.proofs.Common.{◌≡◌, ◌∙◌, ◌+◌, ap, drop, subst, sym}
use Rattle.std.proofs.lemmas.List.{drop_all}
use Rattle.c_place.proofs.Marking.{ahead}
use Rattle.c_emit.specs.refinement.Found.{Finds, found, with_uses}
use Rattle.c_emit.proofs.Using.{by_expr, by_exprs, by_place, call_through_uses, call_uses, choose_uses, copy_uses, finds_then, finds_three, found_as, found_end, found_step, nothing_found, size_uses}
use Rattle.c_emit.proofs.uses.+using.Goals as goal

pub in_place-returns-in-Of : goal.in_place-returns-in-Of
in_place-returns-in-Of t c = nothing_found _ _ _ (ap by_place c.in-Of.is)

pub in_expr-returns-in-Number : goal.in_expr-returns-in-Number
in_expr-returns-in-Number t c = nothing_found _ _ _ (ap by_expr c.in-Number.is)

pub in_expr-returns-in-Null : goal.in_expr-returns-in-Null
in_expr-returns-in-Null t c = nothing_found _ _ _ (ap by_expr c.in-Null.is)

pub in_expr-returns-in-NoFunction : goal.in_expr-returns-in-NoFunction
in_expr-returns-in-NoFunction t c = nothing_found _ _ _ (ap by_expr c.in-NoFunction.is)

pub in_expr-returns-in-Literal : goal.in_expr-returns-in-Literal
in_expr-returns-in-Literal t c = nothing_found _ _ _ (ap by_expr c.in-Literal.is)

pub in_expr-returns-in-Getchar : goal.in_expr-returns-in-Getchar
in_expr-returns-in-Getchar t c = nothing_found _ _ _ (ap by_expr c.in-Getchar.is)

pub in_expr-returns-in-Abort : goal.in_expr-returns-in-Abort
in_expr-returns-in-Abort t c = nothing_found _ _ _ (ap by_expr c.in-Abort.is)

pub in_expr-returns-in-SizeOf : goal.in_expr-returns-in-SizeOf
in_expr-returns-in-SizeOf t c = nothing_found _ _ _ (size_uses c.args.e.now c.in-SizeOf.field-0 c.in-SizeOf.field-1 c.in-SizeOf.is)

pub in_expr-returns-in-Function : goal.in_expr-returns-in-Function
in_expr-returns-in-Function t c =
    subst (λ l. Finds c.args.structs.now l (found c.args.uses.now) (found c.named.new.uses)) (sym (ap by_expr c.in-Function.is)) (c.named.ensures c.args.structs.now)

pub in_expr-returns-in_ok-in_expr-in-Choose-2 : goal.in_expr-returns-in_ok-in_expr-in-Choose-2
in_expr-returns-in_ok-in_expr-in-Choose-2 t c =
    found_as _ _ c.in_expr-in-Choose-3.result _ _ _ _ _
    (choose_uses c.args.e.now _ _ _ _ _ _ _ c.in-Choose.is c.deref-in-Choose.ensures c.deref-in-Choose-2.ensures c.deref-in-Choose-3.ensures)
    (finds_three _ _ c.in_expr-in-Choose-3.result _ _ _ _ _ _ _ _ c.in_ok-in_expr-in-Choose.ensures c.in_ok-in_expr-in-Choose-2.ensures c.in_expr-in-Choose-3.ensures)

pub in_expr-returns-in_ok-in_place-in-Copy : goal.in_expr-returns-in_ok-in_place-in-Copy
in_expr-returns-in_ok-in_place-in-Copy t c =
    found_as _ _ c.in_place-in-Copy-2.result _ _ _ _ _
    (copy_uses c.args.e.now _ _ _ _ _ c.in-Copy.is c.deref-in-Copy.ensures c.deref-in-Copy-2.ensures)
    (finds_three _ _ c.in_place-in-Copy-2.result _ _ _ _ _ _ _ _ c.in_ok-copied-in-Copy.ensures c.in_ok-in_place-in-Copy.ensures c.in_place-in-Copy-2.ensures)

pub in_expr-returns-in-Call : goal.in_expr-returns-in-Call
in_expr-returns-in-Call t c =
    found_as _ _ c.in_exprs.result _ _ _ _ _
    (call_uses c.args.e.now _ _ _ _ c.in-Call.is c.deref-in-Call.ensures.value)
    (finds_then _ _ c.in_exprs.result _ _ _ _ _ _ (c.called.ensures c.args.structs.now) c.in_exprs.ensures)

pub in_expr-returns-in_ok-in_expr-in-CallThrough : goal.in_expr-returns-in_ok-in_expr-in-CallThrough
in_expr-returns-in_ok-in_expr-in-CallThrough t c =
    found_as _ _ c.in_exprs-in-CallThrough.result _ _ _ _ _
    (call_through_uses c.args.e.now _ _ _ _ _ _ c.in-CallThrough.is c.deref-in-CallThrough.ensures c.deref-in-CallThrough-2.ensures.value)
    (finds_three _ _ c.in_exprs-in-CallThrough.result _ _ _ _ _ _ _ _ (c.in_ok-called_through-in-CallThrough.ensures c.args.structs.now)
    c.in_ok-in_expr-in-CallThrough.ensures c.in_exprs-in-CallThrough.ensures)

pub in_exprs-loop-e-preserved : goal.in_exprs-loop-e-preserved
in_exprs-loop-e-preserved t c =
    let es = c.args.es.now in
    let i = c.loop-e.e-index in
    let e = c.e-item.result in
    found_step c.args.structs.now (by_expr e) (by_exprs (drop (i + 1) es)) (by_exprs (drop i es)) (found c.loop-e.uses) (found c.in_expr.new.uses)
    (with_uses c.args.structs.now (by_exprs es) (found c.args.uses.now)) (ap by_exprs (ahead es i e c.loop-e-test.true c.e-item.is))
    c.in_ok-in_expr.ensures c.loop-e.invariant

pub in_exprs-returns : goal.in_exprs-returns
in_exprs-returns t c =
    let es = c.args.es.now in
    let i = c.loop-e.e-index in
    found_end c.args.structs.now (by_exprs (drop i es)) (by_exprs es) (found c.args.uses.now) (found c.loop-e.uses)
    (ap by_exprs (drop_all i es c.loop-e-test.false)) c.loop-e.invariant
