-- Integer constant expressions (C11, 6.6): the numbers that operators give at their types, by bits. Signed arithmetic
-- wraps, the count of a shift goes modulo the width, and a division may trap.
use Rattle.std.specs.Prelude.{ℕ, ◌==◌, ◌-◌, ◌%◌, ◌^◌, not, nat_lt, int_lt, int_le, bit_and, bit_or, bit_xor, ℤ, pos, negsuc, ◌&&◌, Bool, true, false, Option, Some, None, Result, Ok, Err, if◌then◌else◌}
use Rattle.ms_num.specs.declared.arith.Arith.{Arith}
use Rattle.ms_num.specs.Integers as int
use Rattle.ms_num.specs.Integers.{signed, wrapped, truth}
use Rattle.c_types.specs.declared.integers.IntType.{IntType}
use Rattle.c_types.specs.declared.integers.IntType.TheVariants.{Int, UnsignedInt, Long, UnsignedLong, LongLong, UnsignedLongLong}
use Rattle.c_types.specs.Integers.{bits, is_signed, promoted, common}
use Rattle.c_token.specs.declared.word.IntegerType.{IntegerType}
use Rattle.c_token.specs.declared.word.IntegerType.TheVariants as constants
use Rattle.c_tree.specs.declared.operators.UnaryOp.{UnaryOp}
use Rattle.c_tree.specs.declared.operators.UnaryOp.TheVariants as unaries
use Rattle.c_typed.specs.declared.ops.BinaryOp.{BinaryOp}
use Rattle.c_typed.specs.declared.ops.BinaryOp.TheVariants as ops
use Rattle.c_typed.specs.declared.ops.RelOp.{RelOp}
use Rattle.c_typed.specs.declared.ops.RelOp.TheVariants as relations
use Rattle.c_check_types.specs.declared.constants.Constant.{Constant}
use Rattle.c_check_types.specs.State.{and_then}
use Rattle.c_check_types.specs.declared.operators.Operator.{Operator}
use Rattle.c_check_types.specs.declared.operators.Operator.TheVariants.{And, Or, Equality, Order, Arithmetic, Shift, Plus, Minus}

abbrev pub a_number : IntType → ℕ → Constant
a_number t n = record { ty = t; value = Some n }

-- ---- constants (6.4.4)

abbrev pub constant_type : IntegerType → IntType
constant_type constants.Int = Int
constant_type constants.UnsignedInt = UnsignedInt
constant_type constants.Long = Long
constant_type constants.UnsignedLong = UnsignedLong
constant_type constants.LongLong = LongLong
constant_type constants.UnsignedLongLong = UnsignedLongLong

-- the bits of a constant of a type
abbrev pub constant_bits : IntType → ℕ → ℕ
constant_bits t n = n % 2 ^ bits t

-- a character is an int, with the value of its byte as a signed char (6.4.4.4, paragraph 10)
abbrev pub character_bits : ℕ → ℕ
character_bits byte = wrapped 32 (signed 8 byte)

-- ---- conversions (6.3.1.3)

-- the number that bits of a type mean
abbrev pub meant : IntType → ℕ → ℤ
meant t a = if is_signed t then signed (bits t) a else pos a

abbrev pub converted : (from to : IntType) → ℕ → ℕ
converted t u a = wrapped (bits u) (meant t a)

abbrev pub converted_value : (from to : IntType) → Option ℕ → Option ℕ
converted_value t u v = and_then v (λ a. Some (converted t u a))

-- the bits of the constant, converted to a type
abbrev pub value_at : IntType → Constant → Option ℕ
value_at t c = converted_value c.ty t c.value

-- ---- operations on two operands of one type

abbrev pub or_trap : Result ℕ Arith → Option ℕ
or_trap (Ok n) = Some n
or_trap (Err e) = None

abbrev pub computed : BinaryOp → IntType → ℕ → ℕ → Option ℕ
computed ops.Add t a b = Some (int.add (bits t) a b)
computed ops.Sub t a b = Some (int.sub (bits t) a b)
computed ops.Mul t a b = Some (int.mul (bits t) a b)
computed ops.Div t a b = if is_signed t then or_trap (int.div_s (bits t) a b) else or_trap (int.div_u (bits t) a b)
computed ops.Rem t a b = if is_signed t then or_trap (int.rem_s (bits t) a b) else or_trap (int.rem_u (bits t) a b)
computed ops.And t a b = Some (bit_and a b)
computed ops.Or t a b = Some (bit_or a b)
computed ops.Xor t a b = Some (bit_xor a b)
computed ops.ShiftLeft t a b = Some (int.shl (bits t) a b)
computed ops.ShiftRight t a b = if is_signed t then Some (int.shr_s (bits t) a b) else Some (int.shr_u (bits t) a b)

abbrev pub related : RelOp → IntType → ℕ → ℕ → Bool
related relations.Equal t a b = a == b
related relations.NotEqual t a b = not (a == b)
related relations.Less t a b = int_lt (meant t a) (meant t b)
related relations.LessEqual t a b = int_le (meant t a) (meant t b)
related relations.Greater t a b = int_lt (meant t b) (meant t a)
related relations.GreaterEqual t a b = int_le (meant t b) (meant t a)

-- ---- operators

abbrev on_both : (ℕ → ℕ → Option ℕ) → Option ℕ → Option ℕ → Option ℕ
on_both f v w = and_then v (λ a. and_then w (λ b. f a b))

-- both operands at one type
abbrev pub at_type : BinaryOp → IntType → Constant → Constant → Constant
at_type op t x y = record { ty = t; value = on_both (computed op t) (value_at t x) (value_at t y) }

abbrev pub arithmetic : BinaryOp → Constant → Constant → Constant
arithmetic op x y = at_type op (common x.ty y.ty) x y

-- a shift has the promoted type of its left operand (6.5.7)
abbrev pub shift : BinaryOp → Constant → Constant → Constant
shift op x y = at_type op (promoted x.ty) x y

-- an int that is 1 or 0
abbrev answer_bits : Option Bool → Option ℕ
answer_bits None = None
answer_bits (Some b) = Some (truth b)

abbrev pub an_answer : Option Bool → Constant
an_answer b = record { ty = Int; value = answer_bits b }

abbrev pub relation_at : RelOp → IntType → Option ℕ → Option ℕ → Option Bool
relation_at op t v w = and_then v (λ a. and_then w (λ b. Some (related op t a b)))

abbrev pub relation : RelOp → Constant → Constant → Constant
relation op x y =
    let t = common x.ty y.ty in an_answer (relation_at op t (value_at t x) (value_at t y))

-- whether the number isn't 0
abbrev pub holds : Option ℕ → Option Bool
holds v = and_then v (λ a. Some (not (a == 0)))

-- the right operand isn't evaluated where the left one decides (6.5.13, 6.5.14)
abbrev pub both : Option Bool → Option Bool → Option Bool
both None w = None
both (Some false) w = Some false
both (Some true) w = w

abbrev pub either : Option Bool → Option Bool → Option Bool
either None w = None
either (Some true) w = Some true
either (Some false) w = w

abbrev pub binary : Operator → Constant → Constant → Constant
binary And x y = an_answer (both (holds x.value) (holds y.value))
binary Or x y = an_answer (either (holds x.value) (holds y.value))
binary (Equality op) x y = relation op x y
binary (Order op) x y = relation op x y
binary (Arithmetic op) x y = arithmetic op x y
binary (Shift op) x y = shift op x y
binary Plus x y = arithmetic ops.Add x y
binary Minus x y = arithmetic ops.Sub x y

-- an operation on one operand, at its promoted type
abbrev pub promoted_by : (IntType → ℕ → Option ℕ) → Constant → Constant
promoted_by f x =
    let t = promoted x.ty in record { ty = t; value = and_then (value_at t x) (f t) }

abbrev pub negated : IntType → ℕ → Option ℕ
negated t a = computed ops.Sub t 0 a

-- each bit is turned
abbrev pub complemented : IntType → ℕ → Option ℕ
complemented t a = computed ops.Sub t (2 ^ bits t - 1) a

abbrev pub is_zero : Constant → Constant
is_zero x = an_answer (and_then (holds x.value) (λ b. Some (not b)))

-- 6.5.3.3
abbrev pub unary : UnaryOp → Constant → Option Constant
unary unaries.Plus x = Some (promoted_by (λ t a. Some a) x)
unary unaries.Minus x = Some (promoted_by negated x)
unary unaries.Complement x = Some (promoted_by complemented x)
unary unaries.Not x = Some (is_zero x)
unary unaries.AddressOf x = None
unary unaries.Deref x = None
unary unaries.Increment x = None
unary unaries.Decrement x = None
unary unaries.SizeOf x = None

-- `c ? x : y`: of the two the one that is chosen is evaluated (6.5.15)
abbrev chosen : Option Bool → Option ℕ → Option ℕ → Option ℕ
chosen None v w = None
chosen (Some true) v w = v
chosen (Some false) v w = w

abbrev pub choice : Constant → Constant → Constant → Constant
choice c x y =
    let t = common x.ty y.ty in record { ty = t; value = chosen (holds c.value) (value_at t x) (value_at t y) }

abbrev pub cast : IntType → Constant → Constant
cast t x = record { ty = t; value = value_at t x }

-- whether int holds a number
abbrev pub is_int : ℤ → Bool
is_int z = int_le (negsuc 2147483647) z && int_le z (pos 2147483647)

-- an enumerator's number, an int, by its bits (6.7.2.2, paragraph 2)
abbrev pub int_of : Constant → Option ℕ
int_of c = and_then c.value (λ a. if is_int (meant c.ty a) then Some (converted c.ty Int a) else None)

-- a length: a number that isn't negative
abbrev pub natural : Constant → Option ℕ
natural c = and_then c.value (λ a. if is_signed c.ty then (if nat_lt a (2 ^ (bits c.ty - 1)) then Some a else None) else Some a)
