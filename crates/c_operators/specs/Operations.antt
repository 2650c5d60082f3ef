-- Operators on values and on operands (C11, 6.5.6, 6.5.8, 6.5.9, 6.5.15).
use Rattle.std.specs.Prelude.{Bool, true, false, Option, Some, None, if◌then◌else◌}
use Rattle.c_types.specs.declared.integers.IntType.{IntType}
use Rattle.c_types.specs.declared.integers.IntType.TheVariants.{Int, LongLong}
use Rattle.c_types.specs.Integers.{common}
use Rattle.c_types.specs.Types.{Ty, void, integer, pointer, is_function, scalar_of}
use Rattle.c_typed.specs.declared.ops.BinaryOp.{BinaryOp}
use Rattle.c_typed.specs.declared.ops.BinaryOp.TheVariants as ops
use Rattle.c_typed.specs.declared.ops.RelOp.{RelOp}
use Rattle.c_typed.specs.declared.ops.RelOp.TheVariants as relations
use Rattle.c_typed.specs.Tree as to
use Rattle.c_typed.specs.Tree.{Expr}
use Rattle.c_check_types.specs.State.{Rule, ◌>>=◌, ◌>>◌, pure, none, only_if, and_then}
use Rattle.c_check_types.specs.TypeEquality.{same_type}
use Rattle.c_check_types.specs.Types.{size_of}
use Rattle.c_typed.specs.Forms as form
use Rattle.c_typed.specs.Forms.{Form, value, zero, at_type, null_of, arithmetic, compared}

-- ---- operators on pointers (6.5.6, 6.5.8, 6.5.9)

-- on, or back, by an integer; what the pointer leads to has a size
abbrev pub moved : (back : Bool) → Expr × Ty → Expr × IntType → Rule Form
moved back (p, t) (i, u) = do
  size_of t
  pure (value (to.move t back p (at_type u LongLong i)) (pointer t))

abbrev pub moved_by : Expr × IntType → Expr × Ty → Rule Form
moved_by (i, u) (p, t) = do
  size_of t
  pure (value (to.move_by t (at_type u LongLong i) p) (pointer t))

abbrev pub difference : Expr × Ty → Expr × Ty → Rule Form
difference (p, t) (q, u) = do
  only_if (same_type t u)
  size_of t
  pure (value (to.difference t p q) (integer LongLong))

abbrev pub is_equal : RelOp → Bool
is_equal relations.Equal = true
is_equal _ = false

-- pointers to functions have equality alone
abbrev pub equal_pointers : RelOp → (to_function : Bool) → Expr → Expr → Form
equal_pointers op true p q = value (to.same_function (is_equal op) p q) (integer Int)
equal_pointers op false p q = value (to.compare_pointers op p q) (integer Int)

-- ---- operators on two values

abbrev pub sum : Expr × Ty → Expr × Ty → Rule Form
sum (a, integer t) (b, integer u) = pure (arithmetic ops.Add (a, t) (b, u))
sum (a, pointer t) (b, integer u) = moved false (a, t) (b, u)
sum (a, integer t) (b, pointer u) = moved_by (a, t) (b, u)
sum _ _ = none

abbrev pub minus : Expr × Ty → Expr × Ty → Rule Form
minus (a, integer t) (b, integer u) = pure (arithmetic ops.Sub (a, t) (b, u))
minus (a, pointer t) (b, integer u) = moved true (a, t) (b, u)
minus (a, pointer t) (b, pointer u) = difference (a, t) (b, u)
minus _ _ = none

abbrev pub ordered_pointers : RelOp → (to_function : Bool) → Expr → Expr → Option Form
ordered_pointers op true p q = None
ordered_pointers op false p q = Some (value (to.compare_pointers op p q) (integer Int))

abbrev pub order : RelOp → Expr × Ty → Expr × Ty → Option Form
order op (a, integer t) (b, integer u) = Some (compared op (a, t) (b, u))
order op (a, pointer t) (b, pointer u) =
    if same_type t u then ordered_pointers op (is_function t) a b else None
order op _ _ = None

-- ---- two operands beside each other (6.5.9, 6.5.15)

-- integers with their types, pointers to a type, or voids
pub data Both : Type 0 where
  integers : Expr → IntType → Expr → IntType → Both
  pointers : Ty → Expr → Expr → Both
  voids : Expr → Expr → Both

abbrev pub pointers_beside : Expr × Ty → Expr × Ty → Option Both
pointers_beside (a, t) (b, u) = if same_type t u then Some (pointers t a b) else None

-- a null constant takes the type of the pointer beside it
abbrev pub beside : Form → Form → Option Both
beside (value a (integer t)) (value b (integer u)) = Some (integers a t b u)
beside (value a (integer t)) (zero u) = Some (integers a t (to.number u 0) u)
beside (zero t) (value b (integer u)) = Some (integers (to.number t 0) t b u)
beside (zero t) (zero u) = Some (integers (to.number t 0) t (to.number u 0) u)
beside (value a (pointer t)) (value b (pointer u)) = pointers_beside (a, t) (b, u)
beside (value a (pointer t)) (zero u) = Some (pointers t a (null_of t))
beside (value a (pointer t)) form.null = Some (pointers t a (null_of t))
beside (zero t) (value b (pointer u)) = Some (pointers u (null_of u) b)
beside form.null (value b (pointer u)) = Some (pointers u (null_of u) b)
beside (value a void) (value b void) = Some (voids a b)
beside _ _ = None

-- equality (6.5.9)
abbrev pub equality_of : RelOp → Both → Option Form
equality_of op (integers a t b u) = Some (compared op (a, t) (b, u))
equality_of op (pointers t a b) = Some (equal_pointers op (is_function t) a b)
equality_of op (voids a b) = None

abbrev pub equality : RelOp → Form → Form → Option Form
equality op x y = and_then (beside x y) (λ p. equality_of op p)

-- `c ? x : y` (6.5.15)
abbrev pub chosen : Expr → (t : Ty) → Expr → Expr → Form
chosen c t a b = value (to.choose (scalar_of t) c a b) t

abbrev pub chosen_integer : Expr → Expr × IntType → Expr × IntType → Form
chosen_integer c (a, t) (b, u) =
    let v = common t u in chosen c (integer v) (at_type t v a) (at_type u v b)

abbrev pub choice_of : Expr → Both → Form
choice_of c (integers a t b u) = chosen_integer c (a, t) (b, u)
choice_of c (pointers t a b) = chosen c (pointer t) a b
choice_of c (voids a b) = chosen c void a b

abbrev pub choice : Expr → Form → Form → Option Form
choice c x y = and_then (beside x y) (λ p. Some (choice_of c p))
