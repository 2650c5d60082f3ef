-- What the shifts and the rotations leave.
use Rattle.std.proofs.Common.{◌≡◌, ℕ, ◌+◌, ◌*◌, ◌/◌, ◌%◌, ◌^◌, ◌<◌, ◌⊎◌, refl, sym, ◌∙◌, subst, arith, inl, inr}
use Rattle.std.specs.Prelude.{ℤ, pos, negsuc}
use Rattle.std.specs.Int.{int_shr}
use Rattle.std.proofs.Math.Nat.{mod-mod, mul-mod_left, mul_comm, mul-one, mod-eq_of_lt, div-eq_of_lt, div-one}
use Rattle.std.proofs.Math.Pow.{mod-mod-pow}
use Rattle.std.proofs.lemmas.Nat.{shr_le, shr_below, mod-pow-add, shl-shr, mul-add-lt, pow-add, pow_pos, mod_below}
use Rattle.ms_num.specs.Integers.{IsWidth, halved}

pub low_of_low : (w n : ℕ) → IsWidth w → n % 2 ^ 64 % 2 ^ w ≡ n % 2 ^ w
low_of_low w n h = elim h [
  | inl e ↦ rw e (mod-mod-pow n 32 32)
  | inr e ↦ rw e (mod-mod n (2 ^ 64))
]

pub lowered_below : (w a k : ℕ) → a < 2 ^ w → a / 2 ^ k < 2 ^ w
lowered_below w a k h = omega (arith, shr_le a k)

pub halved_is : (z : ℤ) (k : ℕ) → int_shr z k ≡ halved z k
halved_is (pos n) k = refl
halved_is (negsuc n) k = refl

raised_parts : (j k a : ℕ) → (a * 2 ^ k) % 2 ^ (j + k) ≡ (a % 2 ^ j) * 2 ^ k
raised_parts j k a = mod-pow-add (a * 2 ^ k) j k ∙ rw (shl-shr a k, mul-mod_left a (2 ^ k)) (omega arith)

-- the two parts share no place
pub rotated_below : (w a up down : ℕ) → a < 2 ^ w → up + down ≡ w → (a * 2 ^ up) % 2 ^ w + a / 2 ^ down < 2 ^ w
rotated_below w a up down h e =
    let e1 : w ≡ down + up = omega arith in
    let h1 : a < 2 ^ (up + down) = subst (λ (n : ℕ). a < 2 ^ n) (sym e) h in
    rw (e1, raised_parts down up a, pow-add 2 down up, mul_comm (2 ^ down) (2 ^ up)) (mul-add-lt (a % 2 ^ down) (2 ^ up) (a / 2 ^ down) (2 ^ down) (mod_below a (2 ^ down) (pow_pos down)) (shr_below a up down h1))

-- to turn by nothing, or all the way round, changes nothing
pub unmoved : (w a up down : ℕ) → a < 2 ^ w → up + down ≡ w → (up ≡ 0) ⊎ (down ≡ 0) → (a * 2 ^ up) % 2 ^ w + a / 2 ^ down ≡ a
unmoved w a up down h e c = elim c [
  | inl z ↦
      let e1 : down ≡ w = omega arith in
      rw (z, e1, mul-one a, mod-eq_of_lt h, div-eq_of_lt h) (omega arith)
  | inr z ↦
      let e1 : up ≡ w = omega arith in
      rw (z, e1, mul-mod_left a (2 ^ w), div-one a) (omega arith)
]
