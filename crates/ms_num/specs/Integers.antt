-- The integer operations (WebAssembly 1.0, 4.3.2), on whole numbers modulo 2^w. Where the standard's text gives a number,
-- so does the definition; where it describes a string of bits, the definition is by quotients and remainders.
use Rattle.std.specs.Prelude.{◌≡◌, ◌==◌, ℕ, zero, suc, ◌+◌, ◌-◌, ◌*◌, ◌/◌, ◌%◌, ◌^◌, ◌<◌, ◌≤◌, ◌⊎◌, Bool, if◌then◌else◌, Result, Ok, Err, nat_lt, int_le, int_div, int_rem, ℤ, pos, negsuc, ◌-ℤ◌}
use Rattle.ms_num.specs.declared.arith.Arith.{Arith}
use Rattle.ms_num.specs.declared.arith.Arith.TheVariants.{Overflow, ZeroDivide}

-- the width is 32 or 64
abbrev pub IsWidth : ℕ → Type 0
IsWidth w = (w ≡ 32) ⊎ (w ≡ 64)

-- ---- signed and unsigned readings (4.3.2)

-- the signed reading of w bits
abbrev pub signed : ℕ → ℕ → ℤ
signed w a = if nat_lt a (2 ^ (w - 1)) then pos a else pos a -ℤ pos (2 ^ w)

-- the w bits of a whole number
abbrev pub wrapped : ℕ → ℤ → ℕ
wrapped w (pos n) = n % 2 ^ w
wrapped w (negsuc n) = 2 ^ w - 1 - n % 2 ^ w

-- 1 or 0
abbrev pub truth : Bool → ℕ
truth b = if b then 1 else 0

-- ---- arithmetic

abbrev pub add : ℕ → ℕ → ℕ → ℕ
add w a b = (a + b) % 2 ^ w

abbrev pub sub : ℕ → ℕ → ℕ → ℕ
sub w a b = (a + 2 ^ w - b) % 2 ^ w

abbrev pub mul : ℕ → ℕ → ℕ → ℕ
mul w a b = (a * b) % 2 ^ w

-- truncated toward zero; the least number divided by -1 has no quotient of w bits
abbrev pub div_s : ℕ → ℕ → ℕ → Result ℕ Arith
div_s w a b =
    if b == 0 then Err ZeroDivide else (if int_le (pos (2 ^ (w - 1))) (int_div (signed w a) (signed w b)) then Err Overflow else Ok (wrapped w (int_div (signed w a) (signed w b))))

abbrev pub div_u : ℕ → ℕ → ℕ → Result ℕ Arith
div_u w a b = if b == 0 then Err ZeroDivide else Ok (a / b)

-- the remainder has the sign of the dividend
abbrev pub rem_s : ℕ → ℕ → ℕ → Result ℕ Arith
rem_s w a b = if b == 0 then Err ZeroDivide else Ok (wrapped w (int_rem (signed w a) (signed w b)))

abbrev pub rem_u : ℕ → ℕ → ℕ → Result ℕ Arith
rem_u w a b = if b == 0 then Err ZeroDivide else Ok (a % b)

-- ---- shifts, whose count goes modulo the width

abbrev pub shl : ℕ → ℕ → ℕ → ℕ
shl w a b = (a * 2 ^ (b % w)) % 2 ^ w

abbrev pub shr_u : ℕ → ℕ → ℕ → ℕ
shr_u w a b = a / 2 ^ (b % w)

-- a quotient rounded down
abbrev pub halved : ℤ → ℕ → ℤ
halved (pos n) k = pos (n / 2 ^ k)
halved (negsuc n) k = negsuc (n / 2 ^ k)

abbrev pub shr_s : ℕ → ℕ → ℕ → ℕ
shr_s w a b = wrapped w (halved (signed w a) (b % w))

-- what leaves at the top comes in at the bottom
abbrev pub rotl : ℕ → ℕ → ℕ → ℕ
rotl w a b = (a * 2 ^ (b % w)) % 2 ^ w + a / 2 ^ (w - b % w)

abbrev pub rotr : ℕ → ℕ → ℕ → ℕ
rotr w a b = a / 2 ^ (b % w) + (a * 2 ^ (w - b % w)) % 2 ^ w

-- ---- counting bits

-- so many zeros stand above the highest one: it is the greatest k of at most w with a below 2^(w - k)
pub record IsClz (w a k : ℕ) : Type 0 where
  pub most : k ≤ w
  pub zeros : a < 2 ^ (w - k)
  pub one : k < w → 2 ^ (w - k - 1) ≤ a

-- so many zeros stand below the lowest one: it is the greatest k of at most w with a divisible by 2^k
pub record IsCtz (w a k : ℕ) : Type 0 where
  pub most : k ≤ w
  pub zeros : a % 2 ^ k ≡ 0
  pub one : k < w → (a / 2 ^ k) % 2 ≡ 1

-- how many of the lowest bits, so many, are one
abbrev pub ones : ℕ → ℕ → ℕ
ones zero a = 0
ones (suc w) a = a % 2 + ones w (a / 2)

-- ---- conversions

-- the lowest `from` bits, which a has, as a number of `to` bits
abbrev pub extend : ℕ → ℕ → Bool → ℕ → ℕ
extend from to is_signed a = if is_signed then wrapped to (signed from a) else a

abbrev pub narrow : ℕ → ℕ → ℕ
narrow to a = a % 2 ^ to
