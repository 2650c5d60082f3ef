-- Typed statements in a vector, as a sequence.
use Rattle.std.proofs.Common.{◌≡◌, ◌∙◌, ℕ, Vec, Global, refl, ap}
use mathlib.Core.Former.{Count}
use Rattle.c_types.specs.declared.integers.IntType.{IntType}
use Rattle.c_typed.specs.declared.tree.Case.{Case}
use Rattle.c_typed.specs.declared.tree.Expr.{Expr}
use Rattle.c_typed.specs.declared.tree.Stmt.{Stmt, Row_of-Stmt, end_of-Stmt, more_of-Stmt, items-the_row-Stmt, items_hidden-the_row-Stmt-0}
use Rattle.c_typed.specs.declared.tree.Stmt.TheVariants as code
use Rattle.c_typed.specs.Tree as to
use Rattle.c_typed.specs.refinement.Views as views
use Rattle.c_typed.specs.refinement.Views.{stmt_of, list_of, expr_of}
use Rattle.c_typed.specs.Parts.{sequence}

row_is : (n : _) (row : Row_of-Stmt n) → views.stmts_of row ≡ sequence (list_of (items-the_row-Stmt n row))
row_is n end_of-Stmt = refl
row_is n (more_of-Stmt s ss) = ap (λ xs. to.seq (stmt_of s) xs) (row_is _ ss)

-- the statements of a scope
abbrev row_of : Stmt → (n : Count) × Row_of-Stmt n
row_of (code.Scope' slots shape ss) = (_, ss)
row_of (code.Switch' t e slots cases shape ss) = (_, ss)
row_of _ = (_, end_of-Stmt)

pub scope_is : (slots : Vec ℕ Global) (ss : Vec Stmt Global) → stmt_of (code.Scope slots ss) ≡ to.scope slots.items (sequence (list_of ss.items))
scope_is slots ss =
    let row = row_of (code.Scope slots ss) in
    ap (λ xs. to.scope slots.items xs) (row_is row.0 row.1 ∙ ap (λ xs. sequence (list_of xs)) (items_hidden-the_row-Stmt-0 ss))

pub switch_is : (t : IntType) (e : Expr) (slots : Vec ℕ Global) (cases : Vec Case Global) (ss : Vec Stmt Global) → stmt_of (code.Switch t e slots cases ss) ≡ to.switch t (expr_of e) slots.items cases.items (sequence (list_of ss.items))
switch_is t e slots cases ss =
    let row = row_of (code.Switch t e slots cases ss) in
    ap (λ xs. to.switch t (expr_of e) slots.items cases.items xs) (row_is row.0 row.1 ∙ ap (λ xs. sequence (list_of xs)) (items_hidden-the_row-Stmt-0 ss))
