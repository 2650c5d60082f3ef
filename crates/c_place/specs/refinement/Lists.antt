-- Typed expressions in a vector, as a sequence.
use Rattle.std.specs.Prelude.{List, [], ◌∷◌}
use Rattle.c_typed.specs.declared.tree.Expr.{Expr}
use Rattle.c_typed.specs.Tree.{Exprs, none, more}
use Rattle.c_typed.specs.refinement.Views.{expr_of}

abbrev pub exprs_in : List Expr → Exprs
exprs_in [] = none
exprs_in (e ∷ es) = more (expr_of e) (exprs_in es)
