-- How an expression is used (C11, 6.3.2.1, 6.3.2.3).
use Rattle.std.specs.Prelude.{ℕ, ◌+◌, nat_le, List, [], ◌∷◌, ◌++◌, Option, Some, None, if◌then◌else◌}
use Rattle.c_types.specs.declared.integers.IntType.{IntType}
use Rattle.c_types.specs.declared.integers.IntType.TheVariants.{Char}
use Rattle.c_types.specs.declared.types.Scalar.TheVariants as scalars
use Rattle.c_types.specs.Integers.{bits}
use Rattle.c_types.specs.Types.{Ty, integer, struct, pointer, array, is_function, scalar_of}
use Rattle.c_typed.specs.Tree as to
use Rattle.c_typed.specs.Tree.{Expr, Place}
pub use Rattle.c_typed.specs.Forms.{Amount, bytes, product, Form, place, value, designator, text, zero, null, allocation, at_type, null_of}
use Rattle.c_check_types.specs.State.{Rule, ◌>>=◌, ◌>>◌, pure, none, given, state, change}
use Rattle.c_check_types.specs.TypeEquality.{same_integer, same_type}
use Rattle.c_check_types.specs.Types.{size_of}

-- ---- values (6.3.2.1)

-- a string literal that decays is made before `main`
abbrev pub literal_pointer : List ℕ → Rule Form
literal_pointer s = do
  u ← state
  change (λ u. record u { made = u.made ++ to.text s ∷ []; literals = u.literals + 1 })
  pure (value (to.literal u.literals) (pointer (integer Char)))

-- arrays decay, and other places are read; a struct's isn't
abbrev pub read_place : Place → Ty → Rule Form
read_place p (array t n) = pure (value (to.decay t n p) (pointer t))
read_place p t = do
  s ← given (scalar_of t)
  pure (value (to.read s p) t)

-- An operand: a value, the constant 0 or NULL.
abbrev pub operand : Form → Rule Form
operand (place p t) = read_place p t
operand (value e t) = pure (value e t)
operand (designator e t) = pure (value e (pointer t))
operand (text s) = literal_pointer s
operand (zero t) = pure (zero t)
operand null = pure null
operand (allocation a) = none

-- a value with its type; NULL has none
abbrev pub plain : Form → Option (Expr × Ty)
plain (value e t) = Some (e, t)
plain (zero t) = Some (to.number t 0, integer t)
plain _ = None

abbrev pub value_of : Form → Rule (Expr × Ty)
value_of f = do
  v ← operand f
  given (plain v)

abbrev pub as_integer : Expr × Ty → Option (Expr × IntType)
as_integer (e, integer t) = Some (e, t)
as_integer _ = None

abbrev pub integer_of : Form → Rule (Expr × IntType)
integer_of f = do
  v ← value_of f
  given (as_integer v)

abbrev pub as_pointer : Expr × Ty → Option (Expr × Ty)
as_pointer (e, pointer t) = Some (e, t)
as_pointer _ = None

-- a pointer, and what it leads to
abbrev pub pointer_of : Form → Rule (Expr × Ty)
pointer_of f = do
  v ← value_of f
  given (as_pointer v)

abbrev pub as_place : Form → Option (Place × Ty)
as_place (place p t) = Some (p, t)
as_place _ = None

abbrev pub place_of : Form → Rule (Place × Ty)
place_of f = given (as_place f)

abbrev struct_number : Ty → Option ℕ
struct_number (struct n) = Some n
struct_number _ = None

-- ---- conversions (6.3.1)

-- Conditions are integers or pointers; those of 32 bits or fewer are tested as they are.
abbrev pub condition : Expr × Ty → Option Expr
condition (e, integer t) = Some (if nat_le (bits t) 32 then e else to.truth (scalars.Int t) e)
condition (e, pointer t) = Some (to.truth (if is_function t then scalars.Function else scalars.Pointer) e)
condition _ = None

abbrev pub condition_of : Form → Rule Expr
condition_of f = do
  v ← value_of f
  given (condition v)

-- ---- as if by assignment (6.5.16.1)

abbrev pub to_integer : IntType → Form → Option Expr
to_integer t (value e (integer u)) = Some (at_type u t e)
to_integer t (zero u) = Some (at_type u t (to.number u 0))
to_integer t _ = None

abbrev pub to_pointer : Ty → Form → Option Expr
to_pointer t (value e (pointer u)) = if same_type t u then Some e else None
to_pointer t (zero u) = Some (null_of t)
to_pointer t null = Some (null_of t)
to_pointer t _ = None

abbrev pub allocation_of : Ty → Amount → Expr
allocation_of t (bytes e) = to.malloc t e
allocation_of t (product n e) = to.calloc t n e

-- malloc's and calloc's call becomes a pointer to a type with a size
abbrev pub allocated : Ty → Amount → Rule Expr
allocated t a = do
  size_of t
  pure (allocation_of t a)

-- integers become any integer; pointers stay what they are
abbrev pub assigned_to : Ty → Form → Rule Expr
assigned_to (pointer t) (allocation a) = allocated t a
assigned_to (pointer t) f = do
  v ← operand f
  given (to_pointer t v)
assigned_to (integer t) f = do
  v ← operand f
  given (to_integer t v)
assigned_to _ f = none

-- ---- thrown away (6.3.2.2)

abbrev pub thrown_away : Form → Rule Expr
thrown_away (place p (struct n)) = do
  size_of (struct n)
  pure (to.visit p)
thrown_away f = do
  v ← value_of f
  pure v.0
