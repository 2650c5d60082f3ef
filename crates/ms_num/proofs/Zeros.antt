-- The bits that are counted.
use Rattle.std.proofs.Common.{◌≡◌, ℕ, zero, suc, ◌+◌, ◌-◌, ◌*◌, ◌/◌, ◌%◌, ◌^◌, ◌<◌, ◌≤◌, ap, ◌∙◌, subst, arith}
use Rattle.std.specs.Prelude.{count_ones}
use Rattle.std.specs.Int.{Width, w32, w64, bit_at, trailing_zeros}
use Rattle.std.specs.Int.Count.{count_leading_zeros, count_trailing_zeros, trailing_of_zero, ones_step}
use Rattle.std.proofs.lemmas.Nat.{leading_length, mod-pow-add, ones_le_self}
use Rattle.std.proofs.lemmas.Nat.Bits.{bit_at-trailing_zeros}
use Rattle.std.proofs.Math.Nat.{pow-suc, mod-le}
use mir.Val.{bits}
use Rattle.ms_num.specs.Integers.{IsClz, IsCtz, ones}

leading_one : (m a : ℕ) → 0 < m → 2 ^ m ≤ 2 * a + 1 → 2 ^ (m - 1) ≤ a
leading_one zero a p h = absurd (omega arith)
leading_one (suc m) a p h =
    let e : suc m - 1 ≡ m = omega arith in
    rw e (omega (arith, pow-suc 2 m, h))

pub leading_is : (w a : ℕ) → a < 2 ^ w → IsClz w a (count_leading_zeros w a)
leading_is w a h =
    let t = leading_length w a h in
    record {
      most = omega (arith, t.1);
      zeros =
          let e : w - count_leading_zeros w a ≡ t.0 = omega (arith, t.1) in
          rw e t.2;
      one = λ below. leading_one (w - count_leading_zeros w a) a (omega arith) (let e : w - count_leading_zeros w a ≡ t.0 = omega (arith, t.1) in rw e t.3);
    }

pub leading_32 : (w a r : ℕ) → w ≡ 32 → a < 2 ^ w → r ≡ count_leading_zeros 32 a → IsClz w a r
leading_32 w a r e h is =
    let found : r ≡ count_leading_zeros w a = rw e is in
    rw found (leading_is w a h)

pub leading_64 : (w a r : ℕ) → w ≡ 64 → a < 2 ^ w → r ≡ count_leading_zeros 64 a → IsClz w a r
leading_64 w a r e h is =
    let found : r ≡ count_leading_zeros w a = rw e is in
    rw found (leading_is w a h)

-- a number whose lowest bits are 0
pub low_zero : (a k : ℕ) → ((i : ℕ) → i < k → bit_at a i ≡ 0) → a % 2 ^ k ≡ 0
low_zero a zero h = omega arith
low_zero a (suc k) h =
    let lower = low_zero a k (λ i p. h i (omega arith)) in
    let top = h k (omega arith) in
    let parts = mod-pow-add a 1 k in
    let e : suc k ≡ 1 + k = omega arith in
    rw (e, parts, lower, top) (omega arith)

mod_zero_of : (n : ℕ) → 0 % n ≡ 0
mod_zero_of n = omega (arith, mod-le 0 n)

pub trailing_is : (w : Width) (a : ℕ) → a < 2 ^ bits w → IsCtz (bits w) a (trailing_zeros w a)
trailing_is w zero h = record {
  most = omega (arith, trailing_of_zero (bits w));
  zeros = omega (arith, mod_zero_of (2 ^ trailing_zeros w 0));
  one = λ below. absurd (omega (arith, trailing_of_zero (bits w)));
}
trailing_is w (suc a) h =
    let t = bit_at-trailing_zeros w (suc a) (omega arith) h in
    record {
      most = omega (arith, t.0);
      zeros = low_zero (suc a) (trailing_zeros w (suc a)) t.2;
      one = λ _. t.1;
    }

pub trailing_32 : (w a r : ℕ) → w ≡ 32 → a < 2 ^ w → r ≡ count_trailing_zeros 32 a → IsCtz w a r
trailing_32 w a r e h is =
    let h1 : a < 2 ^ 32 = subst (λ (n : ℕ). a < 2 ^ n) e h in
    rw (e, is) (trailing_is w32 a h1)

pub trailing_64 : (w a r : ℕ) → w ≡ 64 → a < 2 ^ w → r ≡ count_trailing_zeros 64 a → IsCtz w a r
trailing_64 w a r e h is =
    let h1 : a < 2 ^ 64 = subst (λ (n : ℕ). a < 2 ^ n) e h in
    rw (e, is) (trailing_is w64 a h1)

-- so many of the bits counted as all of them are, where the number has no others
pub ones_is : (w a : ℕ) → a < 2 ^ w → count_ones a ≡ ones w a
ones_is zero a h = omega (arith, ones_le_self a)
ones_is (suc w) a h = ones_step a ∙ ap (λ (n : ℕ). a % 2 + n) (ones_is w (a / 2) (omega (arith, pow-suc 2 w, h)))

pub ones_most : (w a : ℕ) → ones w a ≤ w
ones_most zero a = omega arith
ones_most (suc w) a = omega (arith, ones_most w (a / 2))

pub below_power : (w : ℕ) → w < 2 ^ w
below_power zero = omega arith
below_power (suc w) = omega (arith, below_power w, pow-suc 2 w)
