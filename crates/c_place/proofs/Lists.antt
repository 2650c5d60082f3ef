-- Typed expressions in a vector, as arguments, and statements in one, as groups.
use Rattle.std.proofs.Common.{◌≡◌, ◌∙◌, suc, List, [], ◌∷◌, length, add-one, Vec, Box, Global, refl, ap}
use mathlib.Core.Former.{Count}
use Rattle.c_types.specs.Types.{type_of}
use Rattle.c_typed.specs.declared.tree.Expr.{Expr, Row_of-Expr, end_of-Expr, more_of-Expr, items-the_row-Expr, items_hidden-the_row-Expr-0}
use Rattle.c_typed.specs.declared.tree.Expr.TheVariants as code
use Rattle.c_typed.specs.declared.tree.Stmt.{Stmt}
use Rattle.c_typed.specs.Parts.{sequence}
use Rattle.c_typed.specs.Tree as to
use Rattle.c_typed.specs.refinement.Views.{expr_of, exprs_of, list_of}
use Rattle.c_typed.specs.Statements.{count}
use Rattle.c_place.specs.refinement.Lists.{exprs_in}

row_is : (n : _) (row : Row_of-Expr n) → exprs_of row ≡ exprs_in (items-the_row-Expr n row)
row_is n end_of-Expr = refl
row_is n (more_of-Expr e es) = ap (λ xs. to.more (expr_of e) xs) (row_is _ es)

abbrev row_of : Expr → (n : Count) × Row_of-Expr n
row_of (code.Call' f s shape es) = (_, es)
row_of (code.CallThrough' t s p e shape es) = (_, es)
row_of _ = (_, end_of-Expr)

pub call_is : (f : _) (s : _) (es : Vec Expr Global) → expr_of (code.Call f s es) ≡ to.call f s (exprs_in es.items)
call_is f s es =
    let row = row_of (code.Call f s es) in
    ap (λ xs. to.call f s xs) (row_is row.0 row.1 ∙ ap exprs_in (items_hidden-the_row-Expr-0 es))

pub call_through_is : (t : _) (s : _) (e : Box Expr Global) (es : Vec Expr Global) → expr_of (code.CallThrough t s e es) ≡ to.call_through (type_of t) s (expr_of e.value) (exprs_in es.items)
call_through_is t s e es =
    let row = row_of (code.CallThrough t s e es) in
    ap (λ xs. to.call_through (type_of t) s (expr_of e.value) xs) (row_is row.0 row.1 ∙ ap exprs_in (items_hidden-the_row-Expr-0 es))

pub count_is : (ss : List Stmt) → length ss ≡ count (sequence (list_of ss))
count_is [] = refl
count_is (s ∷ ss) = ap suc (count_is ss) ∙ rw add-one refl
