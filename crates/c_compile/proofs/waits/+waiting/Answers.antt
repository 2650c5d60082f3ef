use Rattle.std.proofs.Common.{◌≡◌, ◌∙◌, ◌+◌, ap, max, subst}
use Rattle.std.specs.Prelude.{IfOk}
use Rattle.c_typed.specs.refinement.Views.{expr_of}
use Rattle.c_code.specs.Uses.{waits, waits_all}
use Rattle.c_place.specs.refinement.Lists.{exprs_in}
use Rattle.c_compile.proofs.Waiting.{call_through_waits, call_waits, size_waits}
use Rattle.c_compile.proofs.waits.+waiting.Goals as goal

pub of_expr-returns-in-SizeOf : goal.of_expr-returns-in-SizeOf
of_expr-returns-in-SizeOf t c = size_waits c.args.e.now c.in-SizeOf.field-0 c.in-SizeOf.field-1 c.in-SizeOf.is

pub of_expr-returns-in-Call : goal.of_expr-returns-in-Call
of_expr-returns-in-Call t c =
    subst (λ k. IfOk c.of_exprs.result (λ n. n ≡ k))
    (ap (λ es. waits_all (exprs_in es)) c.deref-in-Call.ensures.value
    ∙ call_waits c.args.e.now c.in-Call.field-0 c.in-Call.field-1 c.in-Call.es c.in-Call.is)
    c.of_exprs.ensures

pub of_expr-returns-in_ok-more-in-CallThrough : goal.of_expr-returns-in_ok-more-in-CallThrough
of_expr-returns-in_ok-more-in-CallThrough t c =
    let es = c.in-CallThrough.es in
    c.greater-in-CallThrough.ensures
    ∙ ap (λ n. max n c.in_ok-more-in-CallThrough.field-0) (c.in_ok-of_expr-in-CallThrough.ensures ∙ ap (λ a. waits (expr_of a)) c.deref-in-CallThrough.ensures)
    ∙ ap (λ n. max (waits (expr_of c.in-CallThrough.a.value)) n)
    (c.in_ok-more-in-CallThrough.ensures ∙ ap (λ n. n + 1) (c.in_ok-of_exprs-in-CallThrough.ensures ∙ ap (λ xs. waits_all (exprs_in xs)) c.deref-in-CallThrough-2.ensures.value))
    ∙ call_through_waits c.args.e.now c.in-CallThrough.field-0 c.in-CallThrough.field-1 c.in-CallThrough.a es c.in-CallThrough.is
