use Rattle.std.proofs.Common.{◌≡◌, ◌∙◌, ◌+◌, ap, max, subst}
use Rattle.std.specs.Prelude.{IfOk}
use Rattle.c_typed.specs.Parts.{sequence}
use Rattle.c_typed.specs.refinement.Views.{expr_of, list_of}
use Rattle.c_code.specs.Uses.{waits, waits_stmts}
use Rattle.c_compile.proofs.Waiting.{scope_waits, switch_waits}
use Rattle.c_compile.proofs.waits.+waiting_statements.Goals as goal

pub waits_stmt-returns-in_ok-more-in-Switch : goal.waits_stmt-returns-in_ok-more-in-Switch
waits_stmt-returns-in_ok-more-in-Switch t c =
    c.greater-in-Switch.ensures
    ∙ ap (λ n. max n c.in_ok-more-in-Switch.field-0) c.in_ok-of_expr-in-Switch.ensures
    ∙ ap (λ n. max (waits (expr_of c.in-Switch.e)) n)
    (c.in_ok-more-in-Switch.ensures ∙ ap (λ n. n + 1) (c.in_ok-waits_stmts-in-Switch.ensures ∙ ap (λ ss. waits_stmts (sequence (list_of ss))) c.deref-in-Switch.ensures.value))
    ∙ switch_waits c.args.s.now c.in-Switch.field-0 c.in-Switch.e c.in-Switch.field-2 c.in-Switch.field-3 c.in-Switch.groups c.in-Switch.is

pub waits_stmt-returns-in-Scope : goal.waits_stmt-returns-in-Scope
waits_stmt-returns-in-Scope t c =
    subst (λ k. IfOk c.waits_stmts-in-Scope.result (λ n. n ≡ k))
    (ap (λ ss. waits_stmts (sequence (list_of ss))) c.deref-in-Scope.ensures.value ∙ scope_waits c.args.s.now c.in-Scope.field-0 c.in-Scope.ss c.in-Scope.is)
    c.waits_stmts-in-Scope.ensures
