-- Numbers that are written are number tokens, and are read as what they are.
use Rattle.std.proofs.Common.{◌≡◌, ℕ, suc, ◌+◌, ◌-◌, ◌*◌, ◌/◌, ◌%◌, ◌<◌, ◌≤◌, ◌^◌, true, false, List, [], ◌∷◌, ◌++◌, refl, ◌∙◌, arith, eqb, leb, ltb}
use Rattle.std.specs.Prelude.{pos, negsuc, ◌-ℤ◌, Some, decimal}
use Rattle.std.proofs.lemmas.Bool.Decides.{nat_tests}
use Rattle.std.proofs.lemmas.Fmt.{decimal_by_steps}
use Rattle.std.proofs.lemmas.Int.{ints}
use Rattle.ms_text_lex.specs.Classes.{hex, is_between, is_decimal}
use Rattle.ms_text_lex.specs.Words.{are_digits, has_sign, is_hexadecimal, is_id, is_unsigned}
use Rattle.ms_text_lex.specs.Numbers.{digit_of, is_negative, with_digits}
use Rattle.ms_text_write.specs.refinement.ReadBack.{ConstantIsRead, IndexIsRead}

-- decimal digits alone
abbrev AllDecimal : List ℕ → Type 0
AllDecimal [] = Unit {0}
AllDecimal (b ∷ bs) = (48 ≤ b) × (b ≤ 57) × AllDecimal bs

hex_of : (d : ℕ) → d < 10 → hex (48 + d) ≡ Some d
hex_of d h =
    let t : is_between 48 57 (48 + d) ≡ true = grind (arith, nat_tests) in
    let m : 48 + d - 48 ≡ d = omega arith in
    rw (t, m) refl

no_underscore : (b : ℕ) → b ≤ 57 → eqb b 95 ≡ false
no_underscore b h = grind (arith, nat_tests)

-- one digit more
one_more : (v : ℕ) (bs : List ℕ) (d : ℕ) → d < 10 → AllDecimal bs → with_digits false v (bs ++ (48 + d) ∷ []) ≡ with_digits false v bs * 10 + d
one_more v [] d h a = rw (no_underscore (48 + d) (omega arith), hex_of d h) refl
one_more v (b ∷ bs) d h a = rw (no_underscore b a.1) (one_more (v * 10 + digit_of (hex b)) bs d h a.2)

digits_too : (bs : List ℕ) (d : ℕ) → d < 10 → AllDecimal bs → AllDecimal (bs ++ (48 + d) ∷ [])
digits_too [] d h a = (omega arith, omega arith, tt)
digits_too (b ∷ bs) d h a = (a.0, a.1, digits_too bs d h a.2)

-- at least one
abbrev IsSome : List ℕ → Type 0
IsSome [] = ⊥
IsSome (b ∷ bs) = Unit {0}

some_more : (bs : List ℕ) (d : ℕ) → IsSome (bs ++ d ∷ [])
some_more [] d = tt
some_more (b ∷ bs) d = tt

-- digits, and at least one, that are worth so much
abbrev Worth : ℕ → List ℕ → Type 0
Worth n bs = AllDecimal bs × IsSome bs × (with_digits false 0 bs ≡ n)

one_digit : (n : ℕ) → n < 10 → Worth n ((48 + n) ∷ [])
one_digit n h = ((omega arith, omega arith, tt), tt, rw (no_underscore (48 + n) (omega arith), hex_of n h) (omega arith))

last_digit : (n : ℕ) (ds : List ℕ) → 10 ≤ n → Worth (n / 10) ds → Worth n (ds ++ ((48 + n % 10) ∷ []))
last_digit n ds h w =
    let low : n % 10 < 10 = omega arith in
    let front : with_digits false 0 ds ≡ n / 10 = w.2 in
    let sum : with_digits false 0 ds * 10 + n % 10 ≡ n = rw front (omega arith) in
    (digits_too ds (n % 10) low w.0, some_more ds (48 + n % 10), one_more 0 ds (n % 10) low w.0 ∙ sum)

decimal_worth : (n : ℕ) → n < 2 ^ 64 → Worth n (decimal n)
decimal_worth n h = decimal_by_steps Worth one_digit last_digit n h

-- ---- what digits are as a token

decimal_digit : (b : ℕ) → 48 ≤ b → b ≤ 57 → is_decimal b ≡ true
decimal_digit b low high = grind (arith, nat_tests)

all_digits : (bs : List ℕ) → AllDecimal bs → are_digits false false bs ≡ true
all_digits [] a = refl
all_digits (b ∷ bs) a =
    let digit : is_decimal b ≡ true = decimal_digit b a.0 a.1 in
    rw (no_underscore b a.1, digit, all_digits bs a.2) refl

not_hexadecimal : (bs : List ℕ) → AllDecimal bs → is_hexadecimal bs ≡ false
not_hexadecimal [] a = refl
not_hexadecimal (b ∷ []) a = refl
not_hexadecimal (b ∷ c ∷ bs) a = let high : c ≤ 57 = a.2.1 in grind (arith, nat_tests)

no_sign : (bs : List ℕ) → AllDecimal bs → has_sign bs ≡ false
no_sign [] a = refl
no_sign (b ∷ bs) a = let low : 48 ≤ b = a.0 in grind (arith, nat_tests)

no_id : (bs : List ℕ) → AllDecimal bs → is_id bs ≡ false
no_id [] a = refl
no_id (b ∷ []) a = refl
no_id (b ∷ c ∷ bs) a = let low : 48 ≤ b = a.0 in grind (arith, nat_tests)

unsigned : (bs : List ℕ) → AllDecimal bs → IsSome bs → is_unsigned bs ≡ true
unsigned [] a i = absurd i
unsigned (b ∷ bs) a i =
    let digit : is_decimal b ≡ true = decimal_digit b a.0 a.1 in
    rw (not_hexadecimal (b ∷ bs) a, no_underscore b a.1, digit, all_digits bs a.2) refl

pub decimal_read : (n : ℕ) → n < 2 ^ 32 → IndexIsRead n
decimal_read n h =
    let w = decimal_worth n (omega arith) in
    let few : ltb n (2 ^ 32) ≡ true = grind (arith, nat_tests) in (
      rw (no_id (decimal n) w.0, no_sign (decimal n) w.0, unsigned (decimal n) w.0 w.1) refl,
      rw (no_sign (decimal n) w.0, not_hexadecimal (decimal n) w.0, w.2, few) refl,
    )

-- ---- constants

not_negative : (bs : List ℕ) → AllDecimal bs → is_negative bs ≡ false
not_negative [] a = refl
not_negative (b ∷ bs) a = let low : 48 ≤ b = a.0 in grind (arith, nat_tests)

minus_no_id : (bs : List ℕ) → is_id (45 ∷ bs) ≡ false
minus_no_id [] = refl
minus_no_id (b ∷ bs) = refl

below_zero : (n : ℕ) → pos 0 -ℤ pos (suc n) ≡ negsuc n
below_zero n = omega (arith, ints)

up_read : (bits n : ℕ) → n < 2 ^ 64 → n < 2 ^ (bits - 1) → ConstantIsRead bits (pos n)
up_read bits n wide h =
    let w = decimal_worth n wide in
    let few : ltb n (2 ^ (bits - 1)) ≡ true = grind (arith, nat_tests) in (
      rw (no_id (decimal n) w.0, no_sign (decimal n) w.0, unsigned (decimal n) w.0 w.1) refl,
      rw (not_negative (decimal n) w.0, no_sign (decimal n) w.0, not_hexadecimal (decimal n) w.0, w.2, few) refl,
    )

down_read : (bits n : ℕ) → suc n < 2 ^ 64 → n < 2 ^ (bits - 1) → ConstantIsRead bits (negsuc n)
down_read bits n wide h =
    let w = decimal_worth (suc n) wide in
    let few : leb (suc n) (2 ^ (bits - 1)) ≡ true = grind (arith, nat_tests) in (
      rw (minus_no_id (decimal (suc n)), unsigned (decimal (suc n)) w.0 w.1) refl,
      rw (not_hexadecimal (decimal (suc n)) w.0, w.2, few, below_zero n) refl,
    )

pub constant_read : (n : ℕ) → n < 2 ^ 31 → ConstantIsRead 32 (pos n) × ConstantIsRead 32 (negsuc n)
constant_read n h = (up_read 32 n (omega arith) h, down_read 32 n (omega arith) h)

pub wide_constant_read : (n : ℕ) → n < 2 ^ 63 → ConstantIsRead 64 (pos n) × ConstantIsRead 64 (negsuc n)
wide_constant_read n h = (up_read 64 n (omega arith) h, down_read 64 n (omega arith) h)
