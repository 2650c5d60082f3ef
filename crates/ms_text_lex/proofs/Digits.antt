-- What digits are worth only grows, and no constant is 2^64 or more.
use Rattle.std.proofs.Common.{◌≡◌, ℕ, ◌+◌, ◌-◌, ◌*◌, ◌≤◌, ◌^◌, Bool, true, false, cond, eqb, List, [], ◌∷◌, refl, ℤ, Option, None, leb, ltb, arith}
use Rattle.std.proofs.lemmas.Bool.Decides.{nat_tests}
use Rattle.ms_text_lex.specs.Classes.{hex}
use Rattle.ms_text_lex.specs.Numbers.{constant_of, digit_of, is_negative, magnitude, radix, with_digits}

scaled : (h : Bool) (v d : ℕ) → v ≤ v * radix h + d
scaled true v d = omega arith
scaled false v d = omega arith

le_trans : (a b c : ℕ) → a ≤ b → b ≤ c → a ≤ c
le_trans a b c p q = omega arith

pub grows : (h : Bool) (v : ℕ) (s : List ℕ) → v ≤ with_digits h v s
grows h v [] = omega arith
grows h v (b ∷ s) =
    elim (eqb b 95) as (λ t. v ≤ cond t (with_digits h v s) (with_digits h (v * radix h + digit_of (hex b)) s)) [
      | true ↦ grows h v s
      | false ↦ le_trans v (v * radix h + digit_of (hex b)) _ (scaled h v (digit_of (hex b))) (grows h (v * radix h + digit_of (hex b)) s)
    ]

abbrev no_number : Option ℤ
no_number = None

none_either : (b : Bool) → no_number ≡ cond b no_number no_number
none_either b = elim b as (λ t. no_number ≡ cond t no_number no_number) [ true ↦ refl | false ↦ refl ]

pub too_large_32 : (s : List ℕ) → 2 ^ 64 ≤ magnitude s → None ≡ constant_of 32 s
too_large_32 s h =
    let negative : leb (magnitude s) (2 ^ (32 - 1)) ≡ false = grind (arith, nat_tests) in
    let small : ltb (magnitude s) (2 ^ (32 - 1)) ≡ false = grind (arith, nat_tests) in
    let large : ltb (magnitude s) (2 ^ 32) ≡ false = grind (arith, nat_tests) in
    rw (negative, small, large) (none_either (is_negative s))

pub too_large_64 : (s : List ℕ) → 2 ^ 64 ≤ magnitude s → None ≡ constant_of 64 s
too_large_64 s h =
    let negative : leb (magnitude s) (2 ^ (64 - 1)) ≡ false = grind (arith, nat_tests) in
    let small : ltb (magnitude s) (2 ^ (64 - 1)) ≡ false = grind (arith, nat_tests) in
    let large : ltb (magnitude s) (2 ^ 64) ≡ false = grind (arith, nat_tests) in
    rw (negative, small, large) (none_either (is_negative s))

pub stays_large : (h : Bool) (v b : ℕ) (s : List ℕ) → eqb b 95 ≡ false → 2 ^ 64 ≤ v * radix h + digit_of (hex b) → 2 ^ 64 ≤ with_digits h v (b ∷ s)
stays_large h v b s e le = rw e (le_trans (2 ^ 64) (v * radix h + digit_of (hex b)) _ le (grows h (v * radix h + digit_of (hex b)) s))
