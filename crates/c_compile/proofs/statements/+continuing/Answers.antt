use Rattle.std.proofs.Common.{◌∙◌, List, ap, sym}
use Rattle.c_typed.proofs.Sequences.{scope_is, switch_is}
use Rattle.c_typed.specs.declared.tree.Stmt.{Stmt}
use Rattle.c_typed.specs.Parts.{sequence}
use Rattle.c_typed.specs.refinement.Views.{list_of, stmt_of}
use Rattle.c_code.specs.Statements.{any_continues, continues}
use Rattle.c_compile.proofs.statements.+continuing.Goals as goal

pub continues-returns-in-Switch : goal.continues-returns-in-Switch
continues-returns-in-Switch t c =
    c.any_continues.ensures
    ∙ ap (λ (l : List Stmt). any_continues (sequence (list_of l))) c.deref-in-Switch.ensures.value
    ∙ ap continues (sym (switch_is c.in-Switch.field-0 c.in-Switch.field-1 c.in-Switch.field-2 c.in-Switch.field-3 c.in-Switch.groups))
    ∙ ap (λ (s : Stmt). continues (stmt_of s)) (sym c.in-Switch.is)

pub continues-returns-in-Scope : goal.continues-returns-in-Scope
continues-returns-in-Scope t c =
    c.any_continues-in-Scope.ensures
    ∙ ap (λ (l : List Stmt). any_continues (sequence (list_of l))) c.deref-in-Scope.ensures.value
    ∙ ap continues (sym (scope_is c.in-Scope.field-0 c.in-Scope.ss))
    ∙ ap (λ (s : Stmt). continues (stmt_of s)) (sym c.in-Scope.is)
