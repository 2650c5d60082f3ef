-- Whole numbers modulo 2^32 and 2^64, and their signed readings.
use Rattle.std.proofs.Common.{◌≡◌, ℕ, zero, suc, ◌+◌, ◌-◌, ◌*◌, ◌/◌, ◌%◌, ◌^◌, ◌<◌, ◌≤◌, Bool, true, false, refl, sym, ap, ◌∙◌, arith, ⊎_elim, mul_comm, mul-add, mul_assoc, div-le_self}
use Rattle.std.specs.Prelude.{ℤ, pos, negsuc, ◌+ℤ◌, ◌-ℤ◌, ◌*ℤ◌, neg_ℤ, if◌then◌else◌}
use Rattle.std.proofs.Math.Nat.{mul-mod_left}
use Rattle.std.proofs.Math.IntN.{*ℤ_comm}
use Rattle.std.proofs.lemmas.Nat.{mul-mod}
use Rattle.std.proofs.lemmas.Int.{ints}
use Rattle.std.proofs.lemmas.Bool.{lt-ltb, le-ltb, cases_lt}
use Rattle.ms_module.specs.Accesses.{bits}
use Rattle.ms_module.specs.declared.numeric.Width.{Width}
use Rattle.ms_module.specs.declared.numeric.Width.TheVariants.{W32, W64}
use Rattle.ms_num.specs.Integers.{halved, wrapped, signed}

pub below : (w : Width) (z : ℤ) → wrapped (bits w) z < 2 ^ bits w
below W32 (pos n) = omega arith
below W32 (negsuc n) = omega arith
below W64 (pos n) = omega arith
below W64 (negsuc n) = omega arith

-- ---- readings: signed, or as they are

abbrev pub read_as : Bool → ℕ → ℕ → ℤ
read_as s b n = if s then signed b n else pos n

pub low_is : (w : Width) (n : ℕ) → n < 2 ^ (bits w - 1) → signed (bits w) n ≡ pos n
low_is W32 n lt = ap (λ (b : Bool). if b then pos n else pos n -ℤ pos (2 ^ 32)) (lt-ltb n (2 ^ 31) lt)
low_is W64 n lt = ap (λ (b : Bool). if b then pos n else pos n -ℤ pos (2 ^ 64)) (lt-ltb n (2 ^ 63) lt)

pub high_is : (w : Width) (n : ℕ) → 2 ^ (bits w - 1) ≤ n → n < 2 ^ bits w → signed (bits w) n ≡ negsuc (2 ^ bits w - 1 - n)
high_is W32 n le lt = ap (λ (b : Bool). if b then pos n else pos n -ℤ pos (2 ^ 32)) (le-ltb n (2 ^ 31) le) ∙ omega (arith, ints)
high_is W64 n le lt = ap (λ (b : Bool). if b then pos n else pos n -ℤ pos (2 ^ 64)) (le-ltb n (2 ^ 63) le) ∙ omega (arith, ints)

wrapped_small : (w : Width) (n : ℕ) → n < 2 ^ bits w → wrapped (bits w) (pos n) ≡ n
wrapped_small W32 n lt = omega arith
wrapped_small W64 n lt = omega arith

wrapped_negative : (w : Width) (n : ℕ) → n < 2 ^ bits w → wrapped (bits w) (negsuc (2 ^ bits w - 1 - n)) ≡ n
wrapped_negative W32 n lt = omega arith
wrapped_negative W64 n lt = omega arith

-- the bits of what bits are read as
pub back : (s : Bool) (w : Width) (n : ℕ) → n < 2 ^ bits w → wrapped (bits w) (read_as s (bits w) n) ≡ n
back false w n lt = wrapped_small w n lt
back true w n lt =
    ⊎_elim
    (λ l. ap (wrapped (bits w)) (low_is w n l) ∙ wrapped_small w n lt)
    (λ h. ap (wrapped (bits w)) (high_is w n h lt) ∙ wrapped_negative w n lt)
    (cases_lt n (2 ^ (bits w - 1)))

pub back_wrapped : (s : Bool) (w : Width) (z : ℤ) → wrapped (bits w) (read_as s (bits w) (wrapped (bits w) z)) ≡ wrapped (bits w) z
back_wrapped s w z = back s w (wrapped (bits w) z) (below w z)

-- ---- ranges

abbrev pub InRange : Bool → Width → ℤ → Type 0
InRange s w z = read_as s (bits w) (wrapped (bits w) z) ≡ z

pub read_in : (s : Bool) (w : Width) (n : ℕ) → n < 2 ^ bits w → InRange s w (read_as s (bits w) n)
read_in s w n lt = ap (read_as s (bits w)) (back s w n lt)

-- what is in range as it is has no sign
pub unsigned_is : (w : Width) (z : ℤ) → InRange false w z → z ≡ pos (wrapped (bits w) z)
unsigned_is w z i = sym i

positive_below : (w : Width) (a : ℕ) → wrapped (bits w) (pos a) < 2 ^ (bits w - 1) → pos (wrapped (bits w) (pos a)) ≡ pos a → a < 2 ^ (bits w - 1)
positive_below W32 a lt e = omega (arith, ints, lt, e)
positive_below W64 a lt e = omega (arith, ints, lt, e)

pub positive_range : (w : Width) (a : ℕ) → InRange true w (pos a) → a < 2 ^ (bits w - 1)
positive_range w a i =
    let n = wrapped (bits w) (pos a) in
    ⊎_elim
    (λ l. positive_below w a l (sym (low_is w n l) ∙ i))
    (λ h. absurd (let e : negsuc (2 ^ bits w - 1 - n) ≡ pos a = sym (high_is w n h (below w (pos a))) ∙ i in cc))
    (cases_lt n (2 ^ (bits w - 1)))

negative_below : (w : Width) (a : ℕ) → 2 ^ (bits w - 1) ≤ wrapped (bits w) (negsuc a) → negsuc (2 ^ bits w - 1 - wrapped (bits w) (negsuc a)) ≡ negsuc a → a < 2 ^ (bits w - 1)
negative_below W32 a le e = omega (arith, ints, le, e)
negative_below W64 a le e = omega (arith, ints, le, e)

pub negative_range : (w : Width) (a : ℕ) → InRange true w (negsuc a) → a < 2 ^ (bits w - 1)
negative_range w a i =
    let n = wrapped (bits w) (negsuc a) in
    ⊎_elim
    (λ l. absurd (let e : pos n ≡ negsuc a = sym (low_is w n l) ∙ i in cc))
    (λ h. negative_below w a h (sym (high_is w n h (below w (negsuc a))) ∙ i))
    (cases_lt n (2 ^ (bits w - 1)))

half_below : (w : Width) (a : ℕ) → a < 2 ^ (bits w - 1) → a < 2 ^ bits w
half_below W32 a lt = omega (arith, lt)
half_below W64 a lt = omega (arith, lt)

pub in_positive : (w : Width) (a : ℕ) → a < 2 ^ (bits w - 1) → InRange true w (pos a)
in_positive w a lt = ap (signed (bits w)) (wrapped_small w a (half_below w a lt)) ∙ low_is w a lt

in_negative_at : (w : Width) (a n : ℕ) → n ≡ wrapped (bits w) (negsuc a) → a < 2 ^ (bits w - 1) → (2 ^ (bits w - 1) ≤ n) × (n < 2 ^ bits w) × (2 ^ bits w - 1 - n ≡ a)
in_negative_at W32 a n e lt = (omega (arith, e, lt), omega (arith, e, lt), omega (arith, e, lt))
in_negative_at W64 a n e lt = (omega (arith, e, lt), omega (arith, e, lt), omega (arith, e, lt))

pub in_negative : (w : Width) (a : ℕ) → a < 2 ^ (bits w - 1) → InRange true w (negsuc a)
in_negative w a lt = let n = wrapped (bits w) (negsuc a) in let f = in_negative_at w a n refl lt in high_is w n f.0 f.1 ∙ ap negsuc f.2

pub halved_in : (w : Width) (z : ℤ) (k : ℕ) → InRange true w z → InRange true w (halved z k)
halved_in w (pos a) k i = in_positive w (a / 2 ^ k) (let q = div-le_self a (2 ^ k) in let r = positive_range w a i in omega (arith, q, r))
halved_in w (negsuc a) k i = in_negative w (a / 2 ^ k) (let q = div-le_self a (2 ^ k) in let r = negative_range w a i in omega (arith, q, r))

-- ---- sums and differences

-- of a difference of naturals
sub_is : (w : Width) (a b : ℕ) (z : ℤ) → z ≡ pos a -ℤ pos (suc b) → wrapped (bits w) z ≡ (a % 2 ^ bits w + (2 ^ bits w - 1 - b % 2 ^ bits w)) % 2 ^ bits w
sub_is W32 a b z e =
    ⊎_elim
    (λ lt. let z : z ≡ negsuc (b - a) = omega (arith, ints) in ap (wrapped 32) z ∙ omega arith)
    (λ le. let z : z ≡ pos (a - suc b) = omega (arith, ints) in ap (wrapped 32) z ∙ omega arith)
    (cases_lt a (suc b))
sub_is W64 a b z e =
    ⊎_elim
    (λ lt. let z : z ≡ negsuc (b - a) = omega (arith, ints) in ap (wrapped 64) z ∙ omega arith)
    (λ le. let z : z ≡ pos (a - suc b) = omega (arith, ints) in ap (wrapped 64) z ∙ omega arith)
    (cases_lt a (suc b))

pub sum_is : (w : Width) (x y : ℤ) → wrapped (bits w) (x +ℤ y) ≡ (wrapped (bits w) x + wrapped (bits w) y) % 2 ^ bits w
sum_is W32 (pos a) (pos b) = omega arith
sum_is W64 (pos a) (pos b) = omega arith
sum_is W32 (negsuc a) (negsuc b) = omega arith
sum_is W64 (negsuc a) (negsuc b) = omega arith
sum_is w (pos a) (negsuc b) = sub_is w a b _ (omega (arith, ints))
sum_is W32 (negsuc a) (pos b) = sub_is W32 b a _ (omega (arith, ints)) ∙ ap (λ (n : ℕ). n % 2 ^ 32) (omega arith)
sum_is W64 (negsuc a) (pos b) = sub_is W64 b a _ (omega (arith, ints)) ∙ ap (λ (n : ℕ). n % 2 ^ 64) (omega arith)

pub negative_is : (w : Width) (x : ℤ) → wrapped (bits w) (neg_ℤ x) ≡ (0 + 2 ^ bits w - wrapped (bits w) x) % 2 ^ bits w
negative_is W32 (pos zero) = refl
negative_is W64 (pos zero) = refl
negative_is W32 (pos (suc n)) = omega arith
negative_is W64 (pos (suc n)) = omega arith
negative_is W32 (negsuc n) = omega arith
negative_is W64 (negsuc n) = omega arith

difference_of : (w : Width) (x y d : ℕ) → y < 2 ^ bits w → d ≡ (0 + 2 ^ bits w - y) % 2 ^ bits w → (x + d) % 2 ^ bits w ≡ (x + 2 ^ bits w - y) % 2 ^ bits w
difference_of W32 x y d lt e = omega (arith, e, lt)
difference_of W64 x y d lt e = omega (arith, e, lt)

pub difference_is : (w : Width) (x y : ℤ) → wrapped (bits w) (x -ℤ y) ≡ (wrapped (bits w) x + 2 ^ bits w - wrapped (bits w) y) % 2 ^ bits w
difference_is w x y =
    let m : x -ℤ y ≡ x +ℤ neg_ℤ y = omega (arith, ints) in
    ap (wrapped (bits w)) m ∙ sum_is w x (neg_ℤ y) ∙ difference_of w (wrapped (bits w) x) (wrapped (bits w) y) (wrapped (bits w) (neg_ℤ y)) (below w y) (negative_is w y)

pub complement_is : (w : Width) (x : ℤ) → wrapped (bits w) (pos (2 ^ bits w - 1) -ℤ x) ≡ 2 ^ bits w - 1 - wrapped (bits w) x
complement_is W32 x = difference_is W32 (pos (2 ^ 32 - 1)) x ∙ (let b = below W32 x in omega (arith, b))
complement_is W64 x = difference_is W64 (pos (2 ^ 64 - 1)) x ∙ (let b = below W64 x in omega (arith, b))

-- ---- products

-- where a sum of two is a multiple, one is the other's negative
opposite : (w : Width) (u v : ℕ) → (u + v) % 2 ^ bits w ≡ 0 → u % 2 ^ bits w ≡ (2 ^ bits w - v % 2 ^ bits w) % 2 ^ bits w
opposite W32 u v e = omega (arith, e)
opposite W64 u v e = omega (arith, e)

-- the bits of a negative number, and it, are a multiple
multiple : (w : Width) (b : ℕ) → wrapped (bits w) (negsuc b) + suc b ≡ suc (b / 2 ^ bits w) * 2 ^ bits w
multiple W32 b = omega arith
multiple W64 b = omega arith

-- of a product with the bits of a negative number
times_bits : (w : Width) (a b : ℕ) → (a * wrapped (bits w) (negsuc b)) % 2 ^ bits w ≡ (2 ^ bits w - (a * suc b) % 2 ^ bits w) % 2 ^ bits w
times_bits w a b =
    let c = wrapped (bits w) (negsuc b) in
    opposite w (a * c) (a * suc b)
    (ap (λ (n : ℕ). n % 2 ^ bits w) (sym (mul-add a c (suc b)) ∙ ap (λ (n : ℕ). a * n) (multiple w b) ∙ sym (mul_assoc a (suc (b / 2 ^ bits w)) (2 ^ bits w))) ∙ mul-mod_left (a * suc (b / 2 ^ bits w)) (2 ^ bits w))

-- the bits of a natural number's negative
negated : (w : Width) (n : ℕ) → wrapped (bits w) (neg_ℤ (pos n)) ≡ (2 ^ bits w - n % 2 ^ bits w) % 2 ^ bits w
negated W32 zero = refl
negated W64 zero = refl
negated W32 (suc n) = omega arith
negated W64 (suc n) = omega arith

times_mod : (w : Width) (a c : ℕ) → c < 2 ^ bits w → (a % 2 ^ bits w * c) % 2 ^ bits w ≡ (a * c) % 2 ^ bits w
times_mod w a c lt = Rattle.std.proofs.lemmas.Nat.mul-mod_first a c (2 ^ bits w)

twice : (w : Width) (n : ℕ) → (2 ^ bits w - (2 ^ bits w - n % 2 ^ bits w) % 2 ^ bits w) % 2 ^ bits w ≡ n % 2 ^ bits w
twice W32 n = omega arith
twice W64 n = omega arith

pub product_is : (w : Width) (x y : ℤ) → wrapped (bits w) (x *ℤ y) ≡ (wrapped (bits w) x * wrapped (bits w) y) % 2 ^ bits w
product_is w (pos a) (pos b) = ap (wrapped (bits w)) (Rattle.std.proofs.Math.IntN.pos-*ℤ-pos a b) ∙ mul-mod a b (2 ^ bits w)
product_is w (pos a) (negsuc b) =
    ap (wrapped (bits w)) (Rattle.std.proofs.Math.IntN.pos-*ℤ-negsuc a b) ∙ negated w (a * suc b)
    ∙ sym (times_mod w a (wrapped (bits w) (negsuc b)) (below w (negsuc b)) ∙ times_bits w a b)
product_is w (negsuc a) (pos b) =
    ap (wrapped (bits w)) (*ℤ_comm (negsuc a) (pos b) ∙ Rattle.std.proofs.Math.IntN.pos-*ℤ-negsuc b a) ∙ negated w (b * suc a)
    ∙ sym (ap (λ (n : ℕ). n % 2 ^ bits w) (mul_comm (wrapped (bits w) (negsuc a)) (b % 2 ^ bits w)) ∙ times_mod w b (wrapped (bits w) (negsuc a)) (below w (negsuc a)) ∙ times_bits w b a)
product_is w (negsuc a) (negsuc b) =
    let c = wrapped (bits w) (negsuc a) in
    ap (wrapped (bits w)) (Rattle.std.proofs.Math.IntN.negsuc-*ℤ-negsuc a b)
    ∙ sym (times_bits w c b
    ∙ ap (λ (n : ℕ). (2 ^ bits w - n) % 2 ^ bits w) (ap (λ (n : ℕ). n % 2 ^ bits w) (mul_comm c (suc b)) ∙ times_bits w (suc b) a)
    ∙ twice w (suc b * suc a) ∙ ap (λ (n : ℕ). n % 2 ^ bits w) (mul_comm (suc b) (suc a)))
