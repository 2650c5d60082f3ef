-- The ranges of integer types: those narrower than an operand are in an operand's.
use Rattle.std.proofs.Common.{◌≡◌, ℕ, zero, suc, ◌-◌, ◌^◌, ◌<◌, ◌≤◌, Bool, true, false, refl, sym, ap, ◌∙◌, subst, arith, ⊎_elim}
use Rattle.std.specs.Prelude.{ℤ, pos, negsuc, ◌-ℤ◌, ◌==◌, if◌then◌else◌}
use Rattle.std.proofs.lemmas.Int.{ints}
use Rattle.std.proofs.lemmas.Bool.{lt-ltb, le-ltb, cases_lt, ne_eqb}
use Rattle.ms_module.specs.Accesses as machine
use Rattle.ms_module.specs.declared.numeric.Width.{Width}
use Rattle.ms_module.specs.declared.numeric.Width.TheVariants.{W32, W64}
use Rattle.ms_num.specs.Integers.{wrapped, signed}
use Rattle.c_types.specs.declared.integers.IntType.{IntType}
use Rattle.c_types.specs.declared.integers.IntType.TheVariants.{Char, SignedChar, UnsignedChar, Short, UnsignedShort, Int, UnsignedInt, Long, UnsignedLong, LongLong, UnsignedLongLong}
use Rattle.c_types.specs.Integers.{bits}
use Rattle.c_meaning.specs.Integers.{is_zero, value_of, wrap}
use Rattle.c_code.specs.Operations.{width_of}
use Rattle.c_numbers.specs.Operands.{IsIn}
use Rattle.c_numbers.proofs.Wrapping.{InRange, below, high_is, in_negative, in_positive, low_is, read_as, read_in}

-- ---- one and two bytes

pub data Small : Type 0 where
  one two : Small

abbrev pub size : Small → ℕ
size one = 8
size two = 16

pub small_below : (b : Small) (z : ℤ) → wrapped (size b) z < 2 ^ size b
small_below one (pos n) = omega arith
small_below one (negsuc n) = omega arith
small_below two (pos n) = omega arith
small_below two (negsuc n) = omega arith

pub small_low : (b : Small) (n : ℕ) → n < 2 ^ (size b - 1) → signed (size b) n ≡ pos n
small_low one n lt = ap (λ (b : Bool). if b then pos n else pos n -ℤ pos (2 ^ 8)) (lt-ltb n (2 ^ 7) lt)
small_low two n lt = ap (λ (b : Bool). if b then pos n else pos n -ℤ pos (2 ^ 16)) (lt-ltb n (2 ^ 15) lt)

pub small_high : (b : Small) (n : ℕ) → 2 ^ (size b - 1) ≤ n → n < 2 ^ size b → signed (size b) n ≡ negsuc (2 ^ size b - 1 - n)
small_high one n le lt = ap (λ (b : Bool). if b then pos n else pos n -ℤ pos (2 ^ 8)) (le-ltb n (2 ^ 7) le) ∙ omega (arith, ints)
small_high two n le lt = ap (λ (b : Bool). if b then pos n else pos n -ℤ pos (2 ^ 16)) (le-ltb n (2 ^ 15) le) ∙ omega (arith, ints)

small_positive : (b : Small) (n : ℕ) → n < 2 ^ size b → wrapped (size b) (pos n) ≡ n
small_positive one n lt = omega arith
small_positive two n lt = omega arith

small_negative : (b : Small) (n : ℕ) → n < 2 ^ size b → wrapped (size b) (negsuc (2 ^ size b - 1 - n)) ≡ n
small_negative one n lt = omega arith
small_negative two n lt = omega arith

small_back : (s : Bool) (b : Small) (n : ℕ) → n < 2 ^ size b → wrapped (size b) (read_as s (size b) n) ≡ n
small_back false b n lt = small_positive b n lt
small_back true b n lt =
    ⊎_elim
    (λ l. ap (wrapped (size b)) (small_low b n l) ∙ small_positive b n lt)
    (λ h. ap (wrapped (size b)) (small_high b n h lt) ∙ small_negative b n lt)
    (cases_lt n (2 ^ (size b - 1)))

small_in : (s : Bool) (b : Small) (n : ℕ) → n < 2 ^ size b → read_as s (size b) (wrapped (size b) (read_as s (size b) n)) ≡ read_as s (size b) n
small_in s b n lt = ap (read_as s (size b)) (small_back s b n lt)

-- ---- a type's number by its bits is in range

pub value_in : (t : IntType) (n : ℕ) → n < 2 ^ bits t → IsIn t (value_of t n)
value_in Char n lt = small_in true one n lt
value_in SignedChar n lt = small_in true one n lt
value_in UnsignedChar n lt = small_in false one n lt
value_in Short n lt = small_in true two n lt
value_in UnsignedShort n lt = small_in false two n lt
value_in Int n lt = read_in true W32 n lt
value_in UnsignedInt n lt = read_in false W32 n lt
value_in Long n lt = read_in true W32 n lt
value_in UnsignedLong n lt = read_in false W32 n lt
value_in LongLong n lt = read_in true W64 n lt
value_in UnsignedLongLong n lt = read_in false W64 n lt

pub bits_below : (t : IntType) (z : ℤ) → wrapped (bits t) z < 2 ^ bits t
bits_below Char z = small_below one z
bits_below SignedChar z = small_below one z
bits_below UnsignedChar z = small_below one z
bits_below Short z = small_below two z
bits_below UnsignedShort z = small_below two z
bits_below Int z = below W32 z
bits_below UnsignedInt z = below W32 z
bits_below Long z = below W32 z
bits_below UnsignedLong z = below W32 z
bits_below LongLong z = below W64 z
bits_below UnsignedLongLong z = below W64 z

pub wrap_in : (t : IntType) (z : ℤ) → IsIn t (wrap t z)
wrap_in t z = value_in t (wrapped (bits t) z) (bits_below t z)

-- ---- a number of one or two bytes is one of type int

low_in : (b : Small) (n : ℕ) → n < 2 ^ size b → n < 2 ^ 31
low_in one n lt = omega (arith, lt)
low_in two n lt = omega (arith, lt)

high_in : (b : Small) (n : ℕ) → 2 ^ size b - 1 - n < 2 ^ 31
high_in one n = omega arith
high_in two n = omega arith

small_widened : (s : Bool) (b : Small) (n : ℕ) (z : ℤ) → n < 2 ^ size b → read_as s (size b) n ≡ z → InRange true W32 z
small_widened false b n z lt e = subst (λ (y : ℤ). InRange true W32 y) e (in_positive W32 n (low_in b n lt))
small_widened true b n z lt e =
    subst (λ (y : ℤ). InRange true W32 y) e
    (⊎_elim
    (λ l. subst (λ (y : ℤ). InRange true W32 y) (sym (small_low b n l)) (in_positive W32 n (low_in b n lt)))
    (λ h. subst (λ (y : ℤ). InRange true W32 y) (sym (small_high b n h lt)) (in_negative W32 (2 ^ size b - 1 - n) (high_in b n)))
    (cases_lt n (2 ^ (size b - 1))))

-- whether an operand of the type is read as signed
abbrev pub reads_signed : IntType → Bool
reads_signed UnsignedInt = false
reads_signed UnsignedLong = false
reads_signed UnsignedLongLong = false
reads_signed _ = true

pub widened : (t : IntType) (z : ℤ) → IsIn t z → InRange (reads_signed t) (width_of t) z
widened Char z i = small_widened true one (wrapped 8 z) z (small_below one z) i
widened SignedChar z i = small_widened true one (wrapped 8 z) z (small_below one z) i
widened UnsignedChar z i = small_widened false one (wrapped 8 z) z (small_below one z) i
widened Short z i = small_widened true two (wrapped 16 z) z (small_below two z) i
widened UnsignedShort z i = small_widened false two (wrapped 16 z) z (small_below two z) i
widened Int z i = i
widened UnsignedInt z i = i
widened Long z i = i
widened UnsignedLong z i = i
widened LongLong z i = i
widened UnsignedLongLong z i = i

-- ---- zero

zero_read : (s : Bool) (w : Width) → is_zero (read_as s (machine.bits w) 0) ≡ true
zero_read false w = refl
zero_read true W32 = refl
zero_read true W64 = refl

suc_read : (s : Bool) (w : Width) (k : ℕ) → suc k < 2 ^ machine.bits w → is_zero (read_as s (machine.bits w) (suc k)) ≡ false
suc_read false w k lt = refl
suc_read true w k lt =
    ⊎_elim
    (λ l. ap is_zero (low_is w (suc k) l))
    (λ h. ap is_zero (high_is w (suc k) h lt))
    (cases_lt (suc k) (2 ^ (machine.bits w - 1)))

zero_of : (s : Bool) (w : Width) (n : ℕ) (y : ℤ) → n < 2 ^ machine.bits w → read_as s (machine.bits w) n ≡ y → (n == 0) ≡ is_zero y
zero_of s w zero y lt e = sym (zero_read s w) ∙ ap is_zero e
zero_of s w (suc k) y lt e = ne_eqb (suc k) 0 (λ p. omega (arith, p)) ∙ sym (suc_read s w k lt) ∙ ap is_zero e

-- a number is zero where its bits are
pub zero_is : (s : Bool) (w : Width) (y : ℤ) → InRange s w y → (wrapped (machine.bits w) y == 0) ≡ is_zero y
zero_is s w y i = zero_of s w (wrapped (machine.bits w) y) y (below w y) i

pub is_zero_of : (t : IntType) (y : ℤ) → IsIn t y → (wrapped (machine.bits (width_of t)) y == 0) ≡ is_zero y
is_zero_of t y i = zero_is (reads_signed t) (width_of t) y (widened t y i)
