-- Typed expressions in a vector, as arguments.
use Rattle.std.proofs.Common.{◌≡◌, ◌∙◌, ◌==◌, List, [], ◌∷◌, Vec, Box, Global, length, arith, refl, ap}
use Rattle.std.proofs.lemmas.Bool.Decides.{nat_tests}
use Rattle.c_types.specs.Types.{type_of}
use Rattle.c_tree.specs.Tree as tree
use Rattle.c_tree.specs.refinement.Views as written
use mathlib.Core.Former.{Count}
use Rattle.c_typed.specs.declared.tree.Expr.{Expr, Row_of-Expr, end_of-Expr, more_of-Expr, items-the_row-Expr, items_hidden-the_row-Expr-0}
use Rattle.c_typed.specs.declared.tree.Expr.TheVariants as code
use Rattle.c_typed.specs.Tree as to
use Rattle.c_typed.specs.refinement.Views as views
use Rattle.c_typed.specs.refinement.Views.{expr_of}
use Rattle.c_check_exprs.specs.Expressions.{exprs_of, no_arguments}
use Rattle.c_check_exprs.specs.refinement.Views.{exprs_in}

row_is : (n : _) (row : Row_of-Expr n) → views.exprs_of row ≡ exprs_of (exprs_in (items-the_row-Expr n row))
row_is n end_of-Expr = refl
row_is n (more_of-Expr e es) = ap (λ xs. to.more (expr_of e) xs) (row_is _ es)

-- the arguments of a call
abbrev row_of : Expr → (n : Count) × Row_of-Expr n
row_of (code.Call' f s shape es) = (_, es)
row_of (code.CallThrough' t s p e shape es) = (_, es)
row_of _ = (_, end_of-Expr)

pub call_is : (f : _) (s : _) (es : Vec Expr Global) → expr_of (code.Call f s es) ≡ to.call f s (exprs_of (exprs_in es.items))
call_is f s es =
    let row = row_of (code.Call f s es) in
    ap (λ xs. to.call f s xs) (row_is row.0 row.1 ∙ ap (λ xs. exprs_of (exprs_in xs)) (items_hidden-the_row-Expr-0 es))

pub call_through_is : (t : _) (s : _) (e : Box Expr Global) (es : Vec Expr Global) → expr_of (code.CallThrough t s e es) ≡ to.call_through (type_of t) s (expr_of e.value) (exprs_of (exprs_in es.items))
call_through_is t s e es =
    let row = row_of (code.CallThrough t s e es) in
    ap (λ xs. to.call_through (type_of t) s (expr_of e.value) xs) (row_is row.0 row.1 ∙ ap (λ xs. exprs_of (exprs_in xs)) (items_hidden-the_row-Expr-0 es))

pub none_if_empty : (es : List tree.Expr) → (length es == 0) ≡ no_arguments (written.exprs_of es)
none_if_empty [] = refl
none_if_empty (e ∷ es) = grind (arith, nat_tests)
