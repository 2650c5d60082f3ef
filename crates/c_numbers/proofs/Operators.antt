-- Operators on two numbers, relations, and operators on one.
use Rattle.std.proofs.Common.{◌≡◌, ℕ, ◌-◌, ◌*◌, ◌/◌, ◌%◌, ◌^◌, ◌<◌, ◌≤◌, Bool, true, false, Result, Ok, Err, List, ◌∷◌, refl, sym, ap, ap₂, ◌∙◌, subst, arith, div-le_self, T, eqb→eq}
use Rattle.std.specs.Prelude.{ℤ, pos, negsuc, ◌+ℤ◌, ◌-ℤ◌, ◌*ℤ◌, neg_ℤ, ◌==◌, ◌&&◌, not, int_lt, int_le, int_div, int_rem, bit_and, bit_or, bit_xor, if◌then◌else◌}
use Rattle.std.proofs.Math.Nat.{mod-le}
use Rattle.std.proofs.lemmas.Int.{ints}
use Rattle.std.proofs.lemmas.Nat.{and_mask, mul-mod_second, or_lt, xor_lt}
use Rattle.std.specs.Int.Bits.{and_lt, xor_add_and}
use Rattle.ms_linear.specs.declared.value.Value.{Value}
use Rattle.ms_linear.specs.declared.value.Value.TheVariants.{I32, I64}
use Rattle.ms_module.specs.Accesses as machine
use Rattle.ms_module.specs.declared.numeric.BinOp.TheVariants as bins
use Rattle.ms_module.specs.declared.numeric.RelOp.{RelOp as Relation}
use Rattle.ms_module.specs.declared.numeric.Numeric.TheVariants.{Binary, Compare}
use Rattle.ms_module.specs.declared.numeric.Width.{Width}
use Rattle.ms_module.specs.declared.numeric.Width.TheVariants.{W32, W64}
use Rattle.ms_num.specs.Integers as int
use Rattle.ms_num.specs.Integers.{halved, wrapped, signed}
use Rattle.ms_num.specs.declared.arith.Arith.{Arith}
use Rattle.ms_num.specs.declared.arith.Arith.TheVariants.{Overflow, ZeroDivide}
use Rattle.ms_operate.specs.Accesses.{integer}
use Rattle.ms_operate.specs.Integers as operate
use Rattle.ms_operate.specs.Numbers.{given, numeric_on}
use Rattle.ms_operate.specs.Outcomes.{Outcome, Gives}
use Rattle.c_types.specs.declared.integers.IntType.{IntType}
use Rattle.c_types.specs.declared.integers.IntType.TheVariants.{Char, SignedChar, UnsignedChar, Short, UnsignedShort, Int, UnsignedInt, Long, UnsignedLong, LongLong, UnsignedLongLong}
use Rattle.c_typed.specs.declared.ops.BinaryOp.{BinaryOp}
use Rattle.c_typed.specs.declared.ops.BinaryOp.TheVariants as ops
use Rattle.c_typed.specs.declared.ops.RelOp.{RelOp}
use Rattle.c_typed.specs.declared.ops.RelOp.TheVariants as relations
use Rattle.c_typed.specs.declared.ops.UnaryOp.TheVariants as signs
use Rattle.c_typed.specs.refinement.Expressions.{IsPromoted}
use Rattle.c_meaning.specs.Integers.{changed, compared, from_truth, is_zero, operated}
use Rattle.c_meaning.specs.World.{Does, pure, stop, zero_divide, overflow}
use Rattle.c_code.specs.Operations.{operator, relation, width_of}
use Rattle.c_numbers.specs.Operands.{Agree, IsIn, number, no_divisor, no_quotient, operand, word}
use Rattle.c_numbers.proofs.Wrapping.{InRange, back, back_wrapped, below, complement_is, difference_is, halved_in, negative_is, product_is, read_as, sum_is}
use Rattle.c_numbers.proofs.Ranges.{zero_is}

-- what holds of the six types that arithmetic works at holds of each promoted type
pub by_type : (P : IntType → Type 0) → P Int → P UnsignedInt → P Long → P UnsignedLong → P LongLong → P UnsignedLongLong → (t : IntType) → IsPromoted t → P t
by_type P a b c d e f Char p = absurd cc
by_type P a b c d e f SignedChar p = absurd cc
by_type P a b c d e f UnsignedChar p = absurd cc
by_type P a b c d e f Short p = absurd cc
by_type P a b c d e f UnsignedShort p = absurd cc
by_type P a b c d e f Int p = a
by_type P a b c d e f UnsignedInt p = b
by_type P a b c d e f Long p = c
by_type P a b c d e f UnsignedLong p = d
by_type P a b c d e f LongLong p = e
by_type P a b c d e f UnsignedLongLong p = f

-- ---- on bits that are read as signed or as they are

module _ (s : Bool) (w : Width) where
  abbrev Agrees : List Value → Does ℤ → Outcome → Type 0
  Agrees rest m o = Agree w (InRange s w) rest m o

  -- the machine gives the bits of the number
  agrees : (rest : List Value) (n : ℕ) (z : ℤ) (r : Result ℕ Arith) → n < 2 ^ machine.bits w → read_as s (machine.bits w) n ≡ z → r ≡ Ok n → Agrees rest (pure z) (given w rest r)
  agrees rest n z r lt e q = record {
    answer = number z;
    is_meant = refl;
    is_made = ap (given w rest) q ∙ ap (λ (k : ℕ). Gives (integer w k ∷ rest)) (sym (sym (ap (wrapped (machine.bits w)) e) ∙ back s w n lt));
    in_range = ap (read_as s (machine.bits w)) (sym (ap (wrapped (machine.bits w)) e) ∙ back s w n lt) ∙ e;
  }

  -- of a number that is wrapped
  wraps : (rest : List Value) (z : ℤ) (n : ℕ) → wrapped (machine.bits w) z ≡ n → Agrees rest (pure (read_as s (machine.bits w) (wrapped (machine.bits w) z))) (given w rest (Ok n))
  wraps rest z n e = agrees rest (wrapped (machine.bits w) z) _ (Ok n) (below w z) refl (ap Ok (sym e))

  module _ (x y : ℤ) (rest : List Value) where
    abbrev bx : ℕ
    bx = wrapped (machine.bits w) x

    abbrev by : ℕ
    by = wrapped (machine.bits w) y

    abbrev wrapped_to : ℤ → Does ℤ
    wrapped_to z = pure (read_as s (machine.bits w) (wrapped (machine.bits w) z))

    pub add_at : Agrees rest (wrapped_to (x +ℤ y)) (given w rest (Ok (int.add (machine.bits w) bx by)))
    add_at = wraps rest (x +ℤ y) _ (sum_is w x y)

    pub sub_at : Agrees rest (wrapped_to (x -ℤ y)) (given w rest (Ok (int.sub (machine.bits w) bx by)))
    sub_at = wraps rest (x -ℤ y) _ (difference_is w x y)

    pub mul_at : Agrees rest (wrapped_to (x *ℤ y)) (given w rest (Ok (int.mul (machine.bits w) bx by)))
    mul_at = wraps rest (x *ℤ y) _ (product_is w x y)

    pub and_at : Agrees rest (pure (read_as s (machine.bits w) (bit_and bx by))) (given w rest (Ok (bit_and bx by)))
    and_at = agrees rest (bit_and bx by) _ _ (and_lt (machine.bits w) bx by (below w x) (below w y)) refl refl

    pub or_at : Agrees rest (pure (read_as s (machine.bits w) (bit_or bx by))) (given w rest (Ok (bit_or bx by)))
    or_at = agrees rest (bit_or bx by) _ _ (or_lt (machine.bits w) bx by (below w x) (below w y)) refl refl

    pub xor_at : Agrees rest (pure (read_as s (machine.bits w) (bit_xor bx by))) (given w rest (Ok (bit_xor bx by)))
    xor_at = agrees rest (bit_xor bx by) _ _ (xor_lt (machine.bits w) bx by (below w x) (below w y)) refl refl

    shifted : (k : ℕ) → wrapped (machine.bits w) (x *ℤ pos (2 ^ k)) ≡ (bx * 2 ^ k) % 2 ^ machine.bits w
    shifted k = product_is w x (pos (2 ^ k)) ∙ mul-mod_second bx (2 ^ k) (2 ^ machine.bits w)

    pub shl_at : Agrees rest (wrapped_to (x *ℤ pos (2 ^ (by % machine.bits w)))) (given w rest (Ok (int.shl (machine.bits w) bx by)))
    shl_at = wraps rest (x *ℤ pos (2 ^ (by % machine.bits w))) _ (shifted (by % machine.bits w))

    -- ---- quotients and remainders

    abbrev divides : Bool → Bool → ℤ → Does ℤ
    divides none past q = if none then stop zero_divide else (if past then stop overflow else wrapped_to q)

    abbrev divided : Bool → Bool → ℕ → Result ℕ Arith
    divided none past n = if none then Err ZeroDivide else (if past then Err Overflow else Ok n)

    quotient_by : (none past : Bool) (q : ℤ) (n : ℕ) → wrapped (machine.bits w) q ≡ n → Agrees rest (divides none past q) (given w rest (divided none past n))
    quotient_by true past q n e = record { answer = no_divisor; is_meant = refl; is_made = refl; in_range = tt }
    quotient_by false true q n e = record { answer = no_quotient; is_meant = refl; is_made = refl; in_range = tt }
    quotient_by false false q n e = wraps rest q n e

    pub quotient_at : (none : Bool) (past : Bool) (q : ℤ) (n : ℕ) (r : Result ℕ Arith) → wrapped (machine.bits w) q ≡ n → r ≡ divided none past n → Agrees rest (divides none past q) (given w rest r)
    quotient_at none past q n r e d = subst (λ (v : Result ℕ Arith). Agrees rest (divides none past q) (given w rest v)) (sym d) (quotient_by none past q n e)

-- ---- signed

module _ (w : Width) (x y : ℤ) (rest : List Value) (ix : InRange true w x) (iy : InRange true w y) where
  abbrev wx : ℕ
  wx = wrapped (machine.bits w) x

  abbrev wy : ℕ
  wy = wrapped (machine.bits w) y

  abbrev sx : ℤ
  sx = signed (machine.bits w) wx

  abbrev sy : ℤ
  sy = signed (machine.bits w) wy

  abbrev least : ℤ
  least = pos (2 ^ (machine.bits w - 1))

  pub div_signed : Agree w (InRange true w) rest (if is_zero y then stop zero_divide else (if int_le least (int_div x y) then stop overflow else pure (signed (machine.bits w) (wrapped (machine.bits w) (int_div x y)))))
      (given w rest (int.div_s (machine.bits w) wx wy))
  div_signed = quotient_at true w x y rest (is_zero y) (int_le least (int_div x y)) (int_div x y) _ _ refl
      (ap (λ (b : Bool). if b then Err ZeroDivide else (if int_le least (int_div sx sy) then Err Overflow else Ok (wrapped (machine.bits w) (int_div sx sy)))) (zero_is true w y iy)
      ∙ ap (λ (q : ℤ). if is_zero y then Err ZeroDivide else (if int_le least q then Err Overflow else Ok (wrapped (machine.bits w) q))) (ap₂ int_div ix iy))

  pub rem_signed : Agree w (InRange true w) rest (if is_zero y then stop zero_divide else pure (signed (machine.bits w) (wrapped (machine.bits w) (int_rem x y))))
      (given w rest (int.rem_s (machine.bits w) wx wy))
  rem_signed = quotient_at true w x y rest (is_zero y) false (int_rem x y) _ _ refl
      (ap (λ (b : Bool). if b then Err ZeroDivide else Ok (wrapped (machine.bits w) (int_rem sx sy))) (zero_is true w y iy)
      ∙ ap (λ (q : ℤ). if is_zero y then Err ZeroDivide else Ok (wrapped (machine.bits w) q)) (ap₂ int_rem ix iy))

  pub shr_signed : Agree w (InRange true w) rest (pure (halved x (wy % machine.bits w))) (given w rest (Ok (int.shr_s (machine.bits w) wx wy)))
  shr_signed = agrees true w rest (wrapped (machine.bits w) (halved x (wy % machine.bits w))) _ _ (below w (halved x (wy % machine.bits w))) (halved_in w x (wy % machine.bits w) ix)
      (ap (λ (z : ℤ). Ok (wrapped (machine.bits w) (halved z (wy % machine.bits w)))) ix)

-- ---- as they are

module _ (w : Width) (x y : ℤ) (rest : List Value) (ix : InRange false w x) (iy : InRange false w y) where
  abbrev ux : ℕ
  ux = wrapped (machine.bits w) x

  abbrev uy : ℕ
  uy = wrapped (machine.bits w) y

  small_bits : (n : ℕ) → n ≤ ux → wrapped (machine.bits w) (pos n) ≡ n
  small_bits n le = back false w n (let b = below w x in omega (arith, b, le))

  quotient_bits : wrapped (machine.bits w) (int_div x y) ≡ ux / uy
  quotient_bits = ap (wrapped (machine.bits w)) (sym (ap₂ int_div ix iy)) ∙ small_bits (ux / uy) (div-le_self ux uy)

  remainder_bits : wrapped (machine.bits w) (int_rem x y) ≡ ux % uy
  remainder_bits = ap (wrapped (machine.bits w)) (sym (ap₂ int_rem ix iy)) ∙ small_bits (ux % uy) (mod-le ux uy)

  pub div_unsigned : Agree w (InRange false w) rest (if is_zero y then stop zero_divide else pure (pos (wrapped (machine.bits w) (int_div x y)))) (given w rest (int.div_u (machine.bits w) ux uy))
  div_unsigned = quotient_at false w x y rest (is_zero y) false (int_div x y) (ux / uy) _ quotient_bits
      (ap (λ (b : Bool). if b then Err ZeroDivide else Ok (ux / uy)) (zero_is false w y iy))

  pub rem_unsigned : Agree w (InRange false w) rest (if is_zero y then stop zero_divide else pure (pos (wrapped (machine.bits w) (int_rem x y)))) (given w rest (int.rem_u (machine.bits w) ux uy))
  rem_unsigned = quotient_at false w x y rest (is_zero y) false (int_rem x y) (ux % uy) _ remainder_bits
      (ap (λ (b : Bool). if b then Err ZeroDivide else Ok (ux % uy)) (zero_is false w y iy))

  pub shr_unsigned : Agree w (InRange false w) rest (pure (halved x (uy % machine.bits w))) (given w rest (Ok (int.shr_u (machine.bits w) ux uy)))
  shr_unsigned = agrees false w rest (ux / 2 ^ (uy % machine.bits w)) _ _ (let b = below w x in let q = div-le_self ux (2 ^ (uy % machine.bits w)) in omega (arith, b, q))
      (ap (λ (z : ℤ). halved z (uy % machine.bits w)) ix) refl

-- ---- the table of operators

abbrev pub Operation : BinaryOp → IntType → Type 0
Operation o t =
    (x y : ℤ) (rest : List Value) → IsIn t x → IsIn t y → Agree (width_of t) (IsIn t) rest (operated o t x y) (numeric_on (Binary (width_of t) (operator o t)) (word t y ∷ word t x ∷ rest))

pub operation : (o : BinaryOp) (t : IntType) → IsPromoted t → Operation o t
operation ops.Add = by_type (Operation ops.Add)
    (λ x y r i j. add_at true W32 x y r) (λ x y r i j. add_at false W32 x y r) (λ x y r i j. add_at true W32 x y r) (λ x y r i j. add_at false W32 x y r) (λ x y r i j. add_at true W64 x y r) (λ x y r i j. add_at false W64 x y r)
operation ops.Sub = by_type (Operation ops.Sub)
    (λ x y r i j. sub_at true W32 x y r) (λ x y r i j. sub_at false W32 x y r) (λ x y r i j. sub_at true W32 x y r) (λ x y r i j. sub_at false W32 x y r) (λ x y r i j. sub_at true W64 x y r) (λ x y r i j. sub_at false W64 x y r)
operation ops.Mul = by_type (Operation ops.Mul)
    (λ x y r i j. mul_at true W32 x y r) (λ x y r i j. mul_at false W32 x y r) (λ x y r i j. mul_at true W32 x y r) (λ x y r i j. mul_at false W32 x y r) (λ x y r i j. mul_at true W64 x y r) (λ x y r i j. mul_at false W64 x y r)
operation ops.Div = by_type (Operation ops.Div)
    (λ x y r i j. div_signed W32 x y r i j) (λ x y r i j. div_unsigned W32 x y r i j) (λ x y r i j. div_signed W32 x y r i j) (λ x y r i j. div_unsigned W32 x y r i j) (λ x y r i j. div_signed W64 x y r i j) (λ x y r i j. div_unsigned W64 x y r i j)
operation ops.Rem = by_type (Operation ops.Rem)
    (λ x y r i j. rem_signed W32 x y r i j) (λ x y r i j. rem_unsigned W32 x y r i j) (λ x y r i j. rem_signed W32 x y r i j) (λ x y r i j. rem_unsigned W32 x y r i j) (λ x y r i j. rem_signed W64 x y r i j) (λ x y r i j. rem_unsigned W64 x y r i j)
operation ops.And = by_type (Operation ops.And)
    (λ x y r i j. and_at true W32 x y r) (λ x y r i j. and_at false W32 x y r) (λ x y r i j. and_at true W32 x y r) (λ x y r i j. and_at false W32 x y r) (λ x y r i j. and_at true W64 x y r) (λ x y r i j. and_at false W64 x y r)
operation ops.Or = by_type (Operation ops.Or)
    (λ x y r i j. or_at true W32 x y r) (λ x y r i j. or_at false W32 x y r) (λ x y r i j. or_at true W32 x y r) (λ x y r i j. or_at false W32 x y r) (λ x y r i j. or_at true W64 x y r) (λ x y r i j. or_at false W64 x y r)
operation ops.Xor = by_type (Operation ops.Xor)
    (λ x y r i j. xor_at true W32 x y r) (λ x y r i j. xor_at false W32 x y r) (λ x y r i j. xor_at true W32 x y r) (λ x y r i j. xor_at false W32 x y r) (λ x y r i j. xor_at true W64 x y r) (λ x y r i j. xor_at false W64 x y r)
operation ops.ShiftLeft = by_type (Operation ops.ShiftLeft)
    (λ x y r i j. shl_at true W32 x y r) (λ x y r i j. shl_at false W32 x y r) (λ x y r i j. shl_at true W32 x y r) (λ x y r i j. shl_at false W32 x y r) (λ x y r i j. shl_at true W64 x y r) (λ x y r i j. shl_at false W64 x y r)
operation ops.ShiftRight = by_type (Operation ops.ShiftRight)
    (λ x y r i j. shr_signed W32 x y r i j) (λ x y r i j. shr_unsigned W32 x y r i j) (λ x y r i j. shr_signed W32 x y r i j) (λ x y r i j. shr_unsigned W32 x y r i j) (λ x y r i j. shr_signed W64 x y r i j) (λ x y r i j. shr_unsigned W64 x y r i j)

-- ---- relations

same_by : (x y : ℤ) (p q r : Bool) → int_le x y ≡ q → int_le y x ≡ r → (p ≡ true → x ≡ y) → (x ≡ y → p ≡ true) → p ≡ (q && r)
same_by x y true true true eq er f g = refl
same_by x y true false r eq er f g = absurd (let e = f refl in omega (arith, ints, eq, e))
same_by x y true true false eq er f g = absurd (let e = f refl in omega (arith, ints, er, e))
same_by x y false true true eq er f g = g (omega (arith, ints, eq, er))
same_by x y false false r eq er f g = refl
same_by x y false true false eq er f g = refl

eqb_is : (a b : ℕ) → (a == b) ≡ true → a ≡ b
eqb_is a b e = eqb→eq a b (subst T (sym e) tt)

module _ (s : Bool) (w : Width) (x y : ℤ) (ix : InRange s w x) (iy : InRange s w y) where
  pub equal_at : (wrapped (machine.bits w) x == wrapped (machine.bits w) y) ≡ (int_le x y && int_le y x)
  equal_at =
      same_by x y _ _ _ refl refl
      (λ e. sym ix ∙ ap (read_as s (machine.bits w)) (eqb_is (wrapped (machine.bits w) x) (wrapped (machine.bits w) y) e) ∙ iy)
      (λ e. Rattle.std.proofs.lemmas.Bool.eq-eqb (wrapped (machine.bits w) x) (wrapped (machine.bits w) y) (ap (wrapped (machine.bits w)) e))

truth_word : (b : Bool) (rest : List Value) → Gives (I32 (int.truth b) ∷ rest) ≡ Gives (word Int (from_truth b) ∷ rest)
truth_word true rest = refl
truth_word false rest = refl

compare_on : (w : Width) (r : Relation) (x y : ℤ) (rest : List Value) (b : Bool) → operate.compare r (machine.bits w) (wrapped (machine.bits w) x) (wrapped (machine.bits w) y) ≡ b
    → numeric_on (Compare w r) (operand w y ∷ operand w x ∷ rest) ≡ Gives (word Int (from_truth b) ∷ rest)
compare_on W32 r x y rest b e = ap (λ (c : Bool). Gives (I32 (int.truth c) ∷ rest)) e ∙ truth_word b rest
compare_on W64 r x y rest b e = ap (λ (c : Bool). Gives (I32 (int.truth c) ∷ rest)) e ∙ truth_word b rest

abbrev Compared : RelOp → IntType → Type 0
Compared o t = (x y : ℤ) → IsIn t x → IsIn t y → operate.compare (relation o t) (machine.bits (width_of t)) (wrapped (machine.bits (width_of t)) x) (wrapped (machine.bits (width_of t)) y) ≡ compared o x y

by_order : (f : ℤ → ℤ → Bool) (s : Bool) (w : Width) (x y : ℤ) → InRange s w x → InRange s w y → f (read_as s (machine.bits w) (wrapped (machine.bits w) x)) (read_as s (machine.bits w) (wrapped (machine.bits w) y)) ≡ f x y
by_order f s w x y i j = ap₂ f i j

by_turned : (f : ℤ → ℤ → Bool) (s : Bool) (w : Width) (x y : ℤ) → InRange s w x → InRange s w y → f (read_as s (machine.bits w) (wrapped (machine.bits w) y)) (read_as s (machine.bits w) (wrapped (machine.bits w) x)) ≡ f y x
by_turned f s w x y i j = ap₂ f j i

compared_is : (o : RelOp) (t : IntType) → IsPromoted t → Compared o t
compared_is relations.Equal = by_type (Compared relations.Equal) (equal_at true W32) (equal_at false W32) (equal_at true W32) (equal_at false W32) (equal_at true W64) (equal_at false W64)
compared_is relations.NotEqual = by_type (Compared relations.NotEqual)
    (λ x y i j. ap not (equal_at true W32 x y i j)) (λ x y i j. ap not (equal_at false W32 x y i j)) (λ x y i j. ap not (equal_at true W32 x y i j)) (λ x y i j. ap not (equal_at false W32 x y i j)) (λ x y i j. ap not (equal_at true W64 x y i j)) (λ x y i j. ap not (equal_at false W64 x y i j))
compared_is relations.Less = by_type (Compared relations.Less) (by_order int_lt true W32) (by_order int_lt false W32) (by_order int_lt true W32) (by_order int_lt false W32) (by_order int_lt true W64) (by_order int_lt false W64)
compared_is relations.LessEqual = by_type (Compared relations.LessEqual) (by_order int_le true W32) (by_order int_le false W32) (by_order int_le true W32) (by_order int_le false W32) (by_order int_le true W64) (by_order int_le false W64)
compared_is relations.Greater = by_type (Compared relations.Greater) (by_turned int_lt true W32) (by_turned int_lt false W32) (by_turned int_lt true W32) (by_turned int_lt false W32) (by_turned int_lt true W64) (by_turned int_lt false W64)
compared_is relations.GreaterEqual = by_type (Compared relations.GreaterEqual) (by_turned int_le true W32) (by_turned int_le false W32) (by_turned int_le true W32) (by_turned int_le false W32) (by_turned int_le true W64) (by_turned int_le false W64)

pub comparison : (o : RelOp) (t : IntType) → IsPromoted t → (x y : ℤ) (rest : List Value) → IsIn t x → IsIn t y
    → numeric_on (Compare (width_of t) (relation o t)) (word t y ∷ word t x ∷ rest) ≡ Gives (word Int (from_truth (compared o x y)) ∷ rest)
comparison o t p x y rest i j = compare_on (width_of t) (relation o t) x y rest (compared o x y) (compared_is o t p x y i j)

-- ---- operators on one number

abbrev pub Negated : IntType → Type 0
Negated t = (x : ℤ) (rest : List Value) → numeric_on (Binary (width_of t) bins.Sub) (word t x ∷ operand (width_of t) (pos 0) ∷ rest) ≡ Gives (word t (changed signs.Negate t x) ∷ rest)

negated_at : (s : Bool) (w : Width) (x : ℤ) → int.sub (machine.bits w) 0 (wrapped (machine.bits w) x) ≡ wrapped (machine.bits w) (read_as s (machine.bits w) (wrapped (machine.bits w) (neg_ℤ x)))
negated_at s w x = sym (back_wrapped s w (neg_ℤ x) ∙ negative_is w x)

pub negation : (t : IntType) → IsPromoted t → Negated t
negation = by_type Negated
    (λ x r. ap (λ (n : ℕ). Gives (I32 n ∷ r)) (negated_at true W32 x)) (λ x r. ap (λ (n : ℕ). Gives (I32 n ∷ r)) (negated_at false W32 x)) (λ x r. ap (λ (n : ℕ). Gives (I32 n ∷ r)) (negated_at true W32 x))
    (λ x r. ap (λ (n : ℕ). Gives (I32 n ∷ r)) (negated_at false W32 x)) (λ x r. ap (λ (n : ℕ). Gives (I64 n ∷ r)) (negated_at true W64 x)) (λ x r. ap (λ (n : ℕ). Gives (I64 n ∷ r)) (negated_at false W64 x))

abbrev pub Complemented : IntType → Type 0
Complemented t = (x : ℤ) (rest : List Value) → numeric_on (Binary (width_of t) bins.Xor) (operand (width_of t) (negsuc 0) ∷ word t x ∷ rest) ≡ Gives (word t (changed signs.Complement t x) ∷ rest)

ones_is : (w : Width) → wrapped (machine.bits w) (negsuc 0) ≡ 2 ^ machine.bits w - 1
ones_is W32 = refl
ones_is W64 = refl

xor_ones : (w : Width) (n : ℕ) → n < 2 ^ machine.bits w → bit_xor n (2 ^ machine.bits w - 1) ≡ 2 ^ machine.bits w - 1 - n
xor_ones W32 n lt = let a = xor_add_and n (2 ^ 32 - 1) in let m = and_mask n 32 in omega (arith, a, m, lt)
xor_ones W64 n lt = let a = xor_add_and n (2 ^ 64 - 1) in let m = and_mask n 64 in omega (arith, a, m, lt)

complemented_at : (s : Bool) (w : Width) (x : ℤ) → bit_xor (wrapped (machine.bits w) x) (wrapped (machine.bits w) (negsuc 0)) ≡ wrapped (machine.bits w) (read_as s (machine.bits w) (wrapped (machine.bits w) (pos (2 ^ machine.bits w - 1) -ℤ x)))
complemented_at s w x =
    ap (bit_xor (wrapped (machine.bits w) x)) (ones_is w) ∙ xor_ones w (wrapped (machine.bits w) x) (below w x) ∙ sym (back_wrapped s w (pos (2 ^ machine.bits w - 1) -ℤ x) ∙ complement_is w x)

pub complement : (t : IntType) → IsPromoted t → Complemented t
complement = by_type Complemented
    (λ x r. ap (λ (n : ℕ). Gives (I32 n ∷ r)) (complemented_at true W32 x)) (λ x r. ap (λ (n : ℕ). Gives (I32 n ∷ r)) (complemented_at false W32 x)) (λ x r. ap (λ (n : ℕ). Gives (I32 n ∷ r)) (complemented_at true W32 x))
    (λ x r. ap (λ (n : ℕ). Gives (I32 n ∷ r)) (complemented_at false W32 x)) (λ x r. ap (λ (n : ℕ). Gives (I64 n ∷ r)) (complemented_at true W64 x)) (λ x r. ap (λ (n : ℕ). Gives (I64 n ∷ r)) (complemented_at false W64 x))
