-- What an expression is before it is used (C11, 6.3.2.1, 6.3.2.3), and what operators on integers make of two of them.
use Rattle.std.specs.Prelude.{ℕ, List, if◌then◌else◌}
use Rattle.c_types.specs.declared.integers.IntType.{IntType}
use Rattle.c_types.specs.declared.integers.IntType.TheVariants.{Int}
use Rattle.c_types.specs.Integers.{promoted, common, same_integer}
use Rattle.c_types.specs.Types.{Ty, integer, is_function}
use Rattle.c_typed.specs.declared.ops.BinaryOp.{BinaryOp}
use Rattle.c_typed.specs.declared.ops.RelOp.{RelOp}
use Rattle.c_typed.specs.Tree as to
use Rattle.c_typed.specs.Tree.{Expr, Place}

-- what is allocated: so many bytes, or so many parts of so many bytes (7.22.3)
pub data Amount : Type 0 where
  bytes : Expr → Amount
  product : (count size : Expr) → Amount

pub data Form : Type 0 where
  place : Place → Ty → Form
  -- a value of an integer type or a pointer type, or a void expression
  value : Expr → Ty → Form
  -- a function, by a pointer to it, and its type
  designator : Expr → Ty → Form
  -- a string literal
  text : List ℕ → Form
  -- the integer constant 0, which is a null constant, too
  zero : IntType → Form
  -- NULL
  null : Form
  -- a call of malloc or calloc
  allocation : Amount → Form

-- ---- conversions (6.3.1.3, 6.3.2.3)

-- an integer at a type
abbrev pub at_type : (from to : IntType) → Expr → Expr
at_type t u e = if same_integer t u then e else to.convert t u e

-- the null pointer to a type
abbrev pub null_of : Ty → Expr
null_of t = if is_function t then to.no_function else to.null

-- ---- operators on integers (6.5.5 to 6.5.12)

abbrev pub promoted_value : Expr × IntType → Expr
promoted_value (e, t) = at_type t (promoted t) e

-- both operands at one type
abbrev pub at_one_type : BinaryOp → IntType → Expr × IntType → Expr × IntType → Form
at_one_type op c (a, t) (b, u) =
    value (to.binary op c (at_type t c a) (at_type u c b)) (integer c)

-- at their common type (6.3.1.8)
abbrev pub arithmetic : BinaryOp → Expr × IntType → Expr × IntType → Form
arithmetic op x y = at_one_type op (common x.1 y.1) x y

-- at the promoted type of the left one (6.5.7)
abbrev pub shift : BinaryOp → Expr × IntType → Expr × IntType → Form
shift op x y = at_one_type op (promoted x.1) x y

abbrev pub compared : RelOp → Expr × IntType → Expr × IntType → Form
compared op (a, t) (b, u) =
    let c = common t u in value (to.compare op c (at_type t c a) (at_type u c b)) (integer Int)
