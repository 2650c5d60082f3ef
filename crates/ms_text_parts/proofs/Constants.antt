-- Constants of 32 bits fit, and powers of two.
use Rattle.std.proofs.Common.{◌≡◌, ℕ, ℤ, pos, negsuc, zero, suc, ◌≤◌, ◌<◌, ◌-◌, ◌+◌, ◌*◌, ◌^◌, Bool, true, false, cond, eqb, leb, ltb, List, Option, Some, None, refl, sym, ◌∙◌, ◌%◌, arith}
use Rattle.std.specs.Prelude.{◌-ℤ◌, IfSome}
use Rattle.std.proofs.lemmas.Bool.Decides.{nat_tests}
use Rattle.std.proofs.Math.Pow.{pow-lt}
use Rattle.std.proofs.lemmas.Int.{ints}
use mir.Val.{SFits}
use mir.Syntax.{w32}
use Rattle.ms_text_lex.specs.Numbers.{constant_of, is_negative, magnitude}
use Rattle.ms_text_grammar.specs.Numbers.{power_from}

abbrev no_number : Option ℤ
no_number = None

below : (z : ℤ) (k : ℕ) → z ≡ negsuc k → k < 2 ^ 31 → SFits w32 z
below z k e lt = rw e (omega arith)

negated_fits : (m : ℕ) → m ≤ 2 ^ 31 → SFits w32 (pos 0 -ℤ pos m)
negated_fits zero le = omega arith
negated_fits (suc k) le = below (pos 0 -ℤ pos (suc k)) k (omega (arith, ints)) (omega arith)

low : (b : Bool) (m : ℕ) → leb m (2 ^ (32 - 1)) ≡ b → IfSome (cond b (Some (pos 0 -ℤ pos m)) no_number) (λ v. SFits w32 v)
low true m e = let le : m ≤ 2 ^ 31 = grind (arith, nat_tests) in negated_fits m le
low false m e = tt

high : (b : Bool) (m : ℕ) → ltb m (2 ^ (32 - 1)) ≡ false → ltb m (2 ^ 32) ≡ b → IfSome (cond b (Some (pos m -ℤ pos (2 ^ 32))) no_number) (λ v. SFits w32 v)
high true m f e =
    let lt : m < 2 ^ 32 = grind (arith, nat_tests) in
    let le : 2 ^ 31 ≤ m = grind (arith, nat_tests) in
    below (pos m -ℤ pos (2 ^ 32)) (2 ^ 32 - 1 - m) (omega (arith, ints)) (omega arith)
high false m f e = tt

middle : (b : Bool) (m : ℕ) → ltb m (2 ^ (32 - 1)) ≡ b → IfSome (cond b (Some (pos m)) (cond (ltb m (2 ^ 32)) (Some (pos m -ℤ pos (2 ^ 32))) no_number)) (λ v. SFits w32 v)
middle true m e = let lt : m < 2 ^ 31 = grind (arith, nat_tests) in omega arith
middle false m e = high (ltb m (2 ^ 32)) m e refl

pub either_fits : (b : Bool) (m : ℕ) → IfSome (cond b (cond (leb m (2 ^ (32 - 1))) (Some (pos 0 -ℤ pos m)) no_number) (cond (ltb m (2 ^ (32 - 1))) (Some (pos m)) (cond (ltb m (2 ^ 32)) (Some (pos m -ℤ pos (2 ^ 32))) no_number))) (λ v. SFits w32 v)
either_fits true m = low (leb m (2 ^ (32 - 1))) m refl
either_fits false m = middle (ltb m (2 ^ (32 - 1))) m refl

pub fits : (s : List ℕ) → IfSome (constant_of 32 s) (λ v. SFits w32 v)
fits s = either_fits (is_negative s) (magnitude s)

-- ---- powers of two

power_small : (k : ℕ) → k < 32 → 2 ^ k < 4294967296
power_small k lt = pow-lt {i = k} {j = 32} lt

pub hit : (most k n : ℕ) → k < most → n ≡ 2 ^ k → power_from (most - k) k n ≡ Some k
hit most k n lt e =
    let same : most - k ≡ suc (most - (k + 1)) = omega arith in
    let test : eqb n (2 ^ k) ≡ true = grind (arith, nat_tests) in
    rw (same, test) refl

pub miss : (most k n : ℕ) → k < most → eqb n (2 ^ k) ≡ false → power_from (most - (k + 1)) (k + 1) n ≡ power_from (most - k) k n
miss most k n lt test =
    let same : most - k ≡ suc (most - (k + 1)) = omega arith in
    let next : k + 1 ≡ suc k = omega arith in
    rw (same, test, next) refl

pub missed : (k n : ℕ) → k < 32 → (n ≡ 1 * 2 ^ k % 4294967296 → ⊥) → eqb n (2 ^ k) ≡ false
missed k n lt differs =
    let small : 2 ^ k < 4294967296 = power_small k lt in
    let e : 1 * 2 ^ k % 4294967296 ≡ 2 ^ k = omega arith in
    let other : n ≡ 2 ^ k → ⊥ = λ h. differs (h ∙ sym e) in
    grind (arith, nat_tests)
