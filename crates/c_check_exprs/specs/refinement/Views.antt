-- What the code's values are.
use Rattle.std.specs.Prelude.{ℕ, List, map}
use Rattle.c_types.specs.declared.types.CType.{CType}
use Rattle.c_types.specs.Types.{Ty, type_of}
use Rattle.c_typed.specs.Tree as to
use Rattle.c_typed.specs.refinement.Views.{expr_of}
use Rattle.c_typed.specs.declared.tree.Expr.{Expr}

abbrev pub numbered_type : ℕ × CType → ℕ × Ty
numbered_type v = (v.0, type_of v.1)

abbrev pub exprs_in : List Expr → List to.Expr
exprs_in es = map expr_of es
