-- Constants, conditions, and conversions among all integer types.
use Rattle.std.proofs.Common.{◌≡◌, ℕ, ◌+◌, ◌-◌, ◌*◌, ◌/◌, ◌%◌, ◌^◌, ◌<◌, ◌≤◌, Bool, true, false, List, [], ◌∷◌, refl, sym, ap, ◌∙◌, subst, arith, ⊎_elim}
use Rattle.std.specs.Prelude.{bit_and, ℤ, pos, negsuc, ◌==◌, not}
use Rattle.std.proofs.lemmas.Bool.{cases_lt}
use Rattle.std.proofs.lemmas.Nat.{and_mask}
use Rattle.ms_linear.specs.declared.value.Value.{Value}
use Rattle.ms_linear.specs.declared.value.Value.TheVariants.{I32, I64}
use Rattle.ms_module.specs.Accesses as machine
use Rattle.ms_module.specs.declared.numeric.Numeric.TheVariants.{Compare, Eqz}
use Rattle.ms_module.specs.declared.numeric.RelOp.TheVariants as rels
use Rattle.ms_module.specs.declared.numeric.Width.{Width}
use Rattle.ms_module.specs.declared.numeric.Width.TheVariants.{W32, W64}
use Rattle.ms_num.specs.Integers as int
use Rattle.ms_num.specs.Integers.{wrapped, signed}
use Rattle.ms_operate.specs.Numbers.{numeric_on}
use Rattle.ms_operate.specs.Outcomes.{Outcome, Gives}
use Rattle.c_types.specs.declared.integers.IntType.{IntType}
use Rattle.c_types.specs.declared.integers.IntType.TheVariants.{Char, SignedChar, UnsignedChar, Short, UnsignedShort, Int, UnsignedInt, Long, UnsignedLong, LongLong, UnsignedLongLong}
use Rattle.c_types.specs.declared.types.Scalar.TheVariants as scalars
use Rattle.c_meaning.specs.Integers.{from_truth, is_zero, wrap}
use Rattle.c_code.specs.Operations.{by_width, constant, convert, narrow, to_type, truth, width_of}
use Rattle.c_numbers.specs.Operands.{IsIn, all_carried, carried, operand, then_on, word}
use Rattle.c_numbers.proofs.Wrapping.{back_wrapped, below, high_is, low_is, read_as}
use Rattle.c_numbers.proofs.Ranges.{Small, one, two, size, is_zero_of, small_below, small_high, small_low, widened}

-- ---- constants

pub constant_is : (w : Width) (z : ℤ) (rest : List Value) → carried (constant w z) rest ≡ Gives (operand w z ∷ rest)
constant_is W32 z rest = ap (λ (n : ℕ). Gives (I32 n ∷ rest)) (back_wrapped true W32 z)
constant_is W64 z rest = ap (λ (n : ℕ). Gives (I64 n ∷ rest)) (back_wrapped true W64 z)

-- ---- conditions

truth_of : (b c : Bool) (rest : List Value) → b ≡ c → Gives (I32 (int.truth b) ∷ rest) ≡ Gives (word Int (from_truth c) ∷ rest)
truth_of true c rest e = subst (λ (d : Bool). Gives (I32 1 ∷ rest) ≡ Gives (word Int (from_truth d) ∷ rest)) e refl
truth_of false c rest e = subst (λ (d : Bool). Gives (I32 0 ∷ rest) ≡ Gives (word Int (from_truth d) ∷ rest)) e refl

not_equal : (w : Width) (x : ℤ) (rest : List Value) (b : Bool) → (wrapped (machine.bits w) x == 0) ≡ b → numeric_on (Compare w rels.Ne) (operand w (pos 0) ∷ operand w x ∷ rest) ≡ Gives (word Int (from_truth (not b)) ∷ rest)
not_equal W32 x rest b e = truth_of (not (wrapped 32 x == 0)) (not b) rest (ap not e)
not_equal W64 x rest b e = truth_of (not (wrapped 64 x == 0)) (not b) rest (ap not e)

pub truth_is : (t : IntType) (x : ℤ) (rest : List Value) (n : ℕ) → IsIn t x → all_carried (truth (scalars.Int t) n).instrs (word t x ∷ rest) ≡ Gives (word Int (from_truth (not (is_zero x))) ∷ rest)
truth_is t x rest n i =
    ap (λ (o : Outcome). then_on o (all_carried (Rattle.c_code.specs.Operations.rel (width_of t) rels.Ne ∷ []))) (constant_is (width_of t) (pos 0) (word t x ∷ rest))
    ∙ ap (λ (o : Outcome). then_on o (all_carried [])) (not_equal (width_of t) x rest (is_zero x) (is_zero_of t x i))

pub not_is : (t : IntType) (x : ℤ) (rest : List Value) → width_of t ≡ W32 → IsIn t x → numeric_on (Eqz W32) (word t x ∷ rest) ≡ Gives (word Int (from_truth (is_zero x)) ∷ rest)
not_is t x rest e i =
    ap (λ (w : Width). numeric_on (Eqz W32) (operand w x ∷ rest)) e
    ∙ truth_of (wrapped 32 x == 0) (is_zero x) rest (sym (ap (λ (w : Width). wrapped (machine.bits w) x == 0) e) ∙ is_zero_of t x i)

-- ---- the lowest bits of 32, read as a number of one or two bytes

-- shifted to the top, and back
low_shifted : (b : Small) (a m : ℕ) → m ≡ (a * 2 ^ (32 - size b)) % 2 ^ 32 → a % 2 ^ size b < 2 ^ (size b - 1) → (m < 2 ^ 31) × (m / 2 ^ (32 - size b) ≡ a % 2 ^ size b)
low_shifted one a m e lt = (omega (arith, e, lt), omega (arith, e, lt))
low_shifted two a m e lt = (omega (arith, e, lt), omega (arith, e, lt))

high_shifted : (b : Small) (a m : ℕ) → m ≡ (a * 2 ^ (32 - size b)) % 2 ^ 32 → 2 ^ (size b - 1) ≤ a % 2 ^ size b → (2 ^ 31 ≤ m) × (m < 2 ^ 32) × ((2 ^ 32 - 1 - m) / 2 ^ (32 - size b) ≡ 2 ^ size b - 1 - a % 2 ^ size b)
high_shifted one a m e le = (omega (arith, e, le), omega (arith, e, le), omega (arith, e, le))
high_shifted two a m e le = (omega (arith, e, le), omega (arith, e, le), omega (arith, e, le))

last_below : (b : Small) (a : ℕ) → a % 2 ^ size b < 2 ^ size b
last_below one a = omega arith
last_below two a = omega arith

shifted_back : (b : Small) (a : ℕ) → int.halved (signed 32 ((a * 2 ^ (32 - size b)) % 2 ^ 32)) (32 - size b) ≡ signed (size b) (a % 2 ^ size b)
shifted_back b a =
    let k = 32 - size b in
    let m = (a * 2 ^ k) % 2 ^ 32 in
    ⊎_elim
    (λ lt. let f = low_shifted b a m refl lt in ap (λ (z : ℤ). int.halved z k) (low_is W32 m f.0) ∙ ap pos f.1 ∙ sym (small_low b (a % 2 ^ size b) lt))
    (λ le. let f = high_shifted b a m refl le in ap (λ (z : ℤ). int.halved z k) (high_is W32 m f.0 f.1) ∙ ap negsuc f.2 ∙ sym (small_high b (a % 2 ^ size b) le (last_below b a)))
    (cases_lt (a % 2 ^ size b) (2 ^ (size b - 1)))

masked : (b : Small) (a : ℕ) → bit_and a (2 ^ size b - 1) ≡ wrapped 32 (pos (a % 2 ^ size b))
masked one a = and_mask a 8 ∙ omega arith
masked two a = and_mask a 16 ∙ omega arith

narrow_is : (s : Bool) (b : Small) (a n : ℕ) (rest : List Value) → all_carried (narrow (size b) s n).instrs (I32 a ∷ rest) ≡ Gives (I32 (wrapped 32 (read_as s (size b) (a % 2 ^ size b))) ∷ rest)
narrow_is true one a n rest = ap (λ (z : ℤ). Gives (I32 (wrapped 32 z) ∷ rest)) (shifted_back one a)
narrow_is true two a n rest = ap (λ (z : ℤ). Gives (I32 (wrapped 32 z) ∷ rest)) (shifted_back two a)
narrow_is false one a n rest = ap (λ (k : ℕ). Gives (I32 k ∷ rest)) (masked one a)
narrow_is false two a n rest = ap (λ (k : ℕ). Gives (I32 k ∷ rest)) (masked two a)

last_bits : (b : Small) (x : ℤ) → wrapped 32 x % 2 ^ size b ≡ wrapped (size b) x
last_bits one (pos n) = omega arith
last_bits one (negsuc n) = omega arith
last_bits two (pos n) = omega arith
last_bits two (negsuc n) = omega arith

narrowed : (s : Bool) (b : Small) (x : ℤ) (n : ℕ) (rest : List Value) → all_carried (narrow (size b) s n).instrs (I32 (wrapped 32 x) ∷ rest) ≡ Gives (I32 (wrapped 32 (read_as s (size b) (wrapped (size b) x))) ∷ rest)
narrowed s b x n rest = narrow_is s b (wrapped 32 x) n rest ∙ ap (λ (k : ℕ). Gives (I32 (wrapped 32 (read_as s (size b) k)) ∷ rest)) (last_bits b x)

as_it_is : (s : Bool) (w : Width) (x : ℤ) (rest : List Value) → Gives (operand w x ∷ rest) ≡ Gives (operand w (read_as s (machine.bits w) (wrapped (machine.bits w) x)) ∷ rest)
as_it_is s w x rest = ap (λ (k : ℕ). Gives (Rattle.ms_operate.specs.Accesses.integer w k ∷ rest)) (sym (back_wrapped s w x))

to_narrow : (u : IntType) (x : ℤ) (n : ℕ) (rest : List Value) → width_of u ≡ W32 → all_carried (to_type u n).instrs (I32 (wrapped 32 x) ∷ rest) ≡ Gives (I32 (wrapped 32 (wrap u x)) ∷ rest)
to_narrow Char x n rest e = narrowed true one x n rest
to_narrow SignedChar x n rest e = narrowed true one x n rest
to_narrow UnsignedChar x n rest e = narrowed false one x n rest
to_narrow Short x n rest e = narrowed true two x n rest
to_narrow UnsignedShort x n rest e = narrowed false two x n rest
to_narrow Int x n rest e = as_it_is true W32 x rest
to_narrow UnsignedInt x n rest e = as_it_is false W32 x rest
to_narrow Long x n rest e = as_it_is true W32 x rest
to_narrow UnsignedLong x n rest e = as_it_is false W32 x rest
to_narrow LongLong x n rest e = absurd cc
to_narrow UnsignedLongLong x n rest e = absurd cc

to_wide : (u : IntType) (x : ℤ) (rest : List Value) → width_of u ≡ W64 → Gives (operand W64 x ∷ rest) ≡ Gives (operand W64 (wrap u x) ∷ rest)
to_wide Char x rest e = absurd cc
to_wide SignedChar x rest e = absurd cc
to_wide UnsignedChar x rest e = absurd cc
to_wide Short x rest e = absurd cc
to_wide UnsignedShort x rest e = absurd cc
to_wide Int x rest e = absurd cc
to_wide UnsignedInt x rest e = absurd cc
to_wide Long x rest e = absurd cc
to_wide UnsignedLong x rest e = absurd cc
to_wide LongLong x rest e = as_it_is true W64 x rest
to_wide UnsignedLongLong x rest e = as_it_is false W64 x rest

-- ---- longer: a signed number by its sign, another with zeros

extended_signed : (x : ℤ) (rest : List Value) → signed 32 (wrapped 32 x) ≡ x → Gives (I64 (int.extend 32 64 true (wrapped 32 x)) ∷ rest) ≡ Gives (operand W64 x ∷ rest)
extended_signed x rest e = ap (λ (z : ℤ). Gives (I64 (wrapped 64 z) ∷ rest)) e

natural_bits : (n : ℕ) → n < 2 ^ 32 → wrapped 32 (pos n) ≡ wrapped 64 (pos n)
natural_bits n lt = omega (arith, lt)

extended_natural : (x : ℤ) (n : ℕ) (rest : List Value) → n < 2 ^ 32 → pos n ≡ x → Gives (I64 (wrapped 32 x) ∷ rest) ≡ Gives (operand W64 x ∷ rest)
extended_natural x n rest lt e = ap (λ (k : ℕ). Gives (I64 k ∷ rest)) (sym (ap (wrapped 32) e) ∙ natural_bits n lt ∙ ap (wrapped 64) e)

byte_below : (x : ℤ) → wrapped 8 x < 2 ^ 32
byte_below x = let b = small_below one x in omega (arith, b)

two_below : (x : ℤ) → wrapped 16 x < 2 ^ 32
two_below x = let b = small_below two x in omega (arith, b)

extended : (t : IntType) (x : ℤ) (rest : List Value) (n : ℕ) → width_of t ≡ W32 → IsIn t x → all_carried (by_width t LongLong W32 W64 n).instrs (I32 (wrapped 32 x) ∷ rest) ≡ Gives (operand W64 x ∷ rest)
extended Char x rest n e i = extended_signed x rest (widened Char x i)
extended SignedChar x rest n e i = extended_signed x rest (widened SignedChar x i)
extended Short x rest n e i = extended_signed x rest (widened Short x i)
extended Int x rest n e i = extended_signed x rest i
extended Long x rest n e i = extended_signed x rest i
extended UnsignedChar x rest n e i = extended_natural x (wrapped 8 x) rest (byte_below x) i
extended UnsignedShort x rest n e i = extended_natural x (wrapped 16 x) rest (two_below x) i
extended UnsignedInt x rest n e i = extended_natural x (wrapped 32 x) rest (below W32 x) i
extended UnsignedLong x rest n e i = extended_natural x (wrapped 32 x) rest (below W32 x) i
extended LongLong x rest n e i = absurd cc
extended UnsignedLongLong x rest n e i = absurd cc

-- ---- shorter

cut : (x : ℤ) → wrapped 64 x % 2 ^ 32 ≡ wrapped 32 x
cut (pos n) = omega arith
cut (negsuc n) = omega arith

by_widths : (t u : IntType) (v w : Width) (x : ℤ) (n : ℕ) (rest : List Value) → width_of t ≡ v → width_of u ≡ w → IsIn t x → all_carried (by_width t u v w n).instrs (operand v x ∷ rest) ≡ Gives (operand w (wrap u x) ∷ rest)
by_widths t u W32 W32 x n rest et eu i = to_narrow u x n rest eu
by_widths t u W32 W64 x n rest et eu i = extended t x rest n et i ∙ to_wide u x rest eu
by_widths t u W64 W32 x n rest et eu i = ap (λ (k : ℕ). all_carried (to_type u (n + 0)).instrs (I32 k ∷ rest)) (cut x) ∙ to_narrow u x (n + 0) rest eu
by_widths t u W64 W64 x n rest et eu i = to_wide u x rest eu

pub convert_is : (t u : IntType) (x : ℤ) (n : ℕ) (rest : List Value) → IsIn t x → all_carried (convert t u n).instrs (word t x ∷ rest) ≡ Gives (word u (wrap u x) ∷ rest)
convert_is t u x n rest i = by_widths t u (width_of t) (width_of u) x n rest refl refl i
