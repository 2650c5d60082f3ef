-- How many values wait in what stands in lists.
use Rattle.std.proofs.Common.{◌≡◌, ◌∙◌, ◌+◌, ℕ, max, List, [], ◌∷◌, Vec, Box, Global, refl, sym, ap}
use Rattle.std.specs.Prelude.{Result, Ok, Err, IfOk}
use Rattle.std.specs.declared.alloc.AllocError.{AllocError}
use Rattle.c_typed.specs.declared.tree.Expr.{Expr}
use Rattle.c_typed.specs.declared.tree.Expr.TheVariants as exprs
use Rattle.c_typed.specs.declared.tree.Sized.{Sized}
use Rattle.c_typed.specs.declared.tree.Sized.TheVariants as sizes
use Rattle.c_typed.specs.declared.tree.Stmt.{Stmt}
use Rattle.c_typed.specs.declared.tree.Stmt.TheVariants as stmts
use Rattle.c_typed.specs.declared.unit.Made.{Made}
use Rattle.c_typed.specs.declared.unit.Made.TheVariants as mades
use Rattle.c_typed.specs.Parts.{sequence}
use Rattle.c_typed.specs.Tree as tree
use Rattle.c_typed.specs.refinement.Views.{expr_of, list_of, made_of, sized_of, stmt_of}
use Rattle.c_typed.proofs.Sequences.{scope_is, switch_is}
use Rattle.c_code.specs.Modules.{waits_made, waits_values}
use Rattle.c_code.specs.Uses.{waits, waits_all, waits_stmt, waits_stmts}
use Rattle.c_place.specs.refinement.Lists.{exprs_in}
use Rattle.c_place.proofs.Lists.{call_is, call_through_is}

sized_none : (n : ℕ) (o : Sized) → 0 ≡ waits (sized_of o n)
sized_none n (sizes.Place' p b) = refl
sized_none n (sizes.Value' p e) = refl
sized_none n sizes.Nothing = refl

pub size_waits : (e : Expr) (n : ℕ) (o : Sized) → e ≡ exprs.SizeOf n o → 0 ≡ waits (expr_of e)
size_waits e n o is = sized_none n o ∙ sym (ap (λ x. waits (expr_of x)) is)

pub call_waits : (e : Expr) (n : ℕ) (s : _) (es : Vec Expr Global) → e ≡ exprs.Call n s es → waits_all (exprs_in es.items) ≡ waits (expr_of e)
call_waits e n s es is = sym (ap (λ x. waits (expr_of x)) is ∙ ap waits (call_is n s es))

pub call_through_waits : (e : Expr) (t s : _) (a : Box Expr Global) (es : Vec Expr Global) → e ≡ exprs.CallThrough t s a es
    → max (waits (expr_of a.value)) (waits_all (exprs_in es.items) + 1) ≡ waits (expr_of e)
call_through_waits e t s a es is = sym (ap (λ x. waits (expr_of x)) is ∙ ap waits (call_through_is t s a es))

pub switch_waits : (s : Stmt) (t : _) (e : Expr) (slots cases : _) (ss : Vec Stmt Global) → s ≡ stmts.Switch t e slots cases ss
    → max (waits (expr_of e)) (waits_stmts (sequence (list_of ss.items)) + 1) ≡ waits_stmt (stmt_of s)
switch_waits s t e slots cases ss is = sym (ap (λ x. waits_stmt (stmt_of x)) is ∙ ap waits_stmt (switch_is t e slots cases ss))

pub scope_waits : (s : Stmt) (slots : _) (ss : Vec Stmt Global) → s ≡ stmts.Scope slots ss → waits_stmts (sequence (list_of ss.items)) ≡ waits_stmt (stmt_of s)
scope_waits s slots ss is = sym (ap (λ x. waits_stmt (stmt_of x)) is ∙ ap waits_stmt (scope_is slots ss))

values_waits : (u : tree.Typed) (ss : List tree.Stmt) → waits_stmts (sequence ss) ≡ waits_values u ss
values_waits u [] = refl
values_waits u (s ∷ ss) = ap (λ n. max (waits_stmt s) n) (values_waits u ss)

pub global_waits : (u : tree.Typed) (ms : List tree.Made) (m : Made) (n : ℕ) (ss : Vec Stmt Global) (all : List Stmt) → m ≡ mades.Global n ss → all ≡ ss.items
    → (r : Result ℕ AllocError) → IfOk r (λ k. k ≡ waits_stmts (sequence (list_of all))) → IfOk r (λ k. max k (waits_made u ms) ≡ waits_made u (made_of m ∷ ms))
global_waits u ms m n ss all is at (Ok k) e =
    ap (λ j. max j (waits_made u ms)) (e ∙ ap (λ l. waits_stmts (sequence (list_of l))) at ∙ values_waits u (list_of ss.items))
    ∙ sym (ap (λ x. waits_made u (made_of x ∷ ms)) is)
global_waits u ms m n ss all is at (Err x) e = e
