-- Numbers of the binary format: LEB128 (WebAssembly 1.0, 5.2.2).
use Rattle.std.specs.Prelude.{◌≡◌, ℕ, ◌+◌, ◌*◌, ◌-◌, ◌<◌, ◌≤◌, ◌^◌, ◌⊎◌, List, [], ◌∷◌, ◌++◌, Result, Ok, Err, nat_lt, nat_le, if◌then◌else◌, ℤ, pos, neg_ℤ, ◌+ℤ◌, ◌-ℤ◌, ◌*ℤ◌, ◌≤ℤ◌, ◌<ℤ◌}
use Rattle.ms_leb.specs.declared.leb.Leb.{Leb}
use Rattle.ms_leb.specs.declared.leb.Leb.TheVariants.{Short, Long}

-- The spellings of an unsigned number of so many bits. The last byte is below 128 and within the bits that are
-- left. Each byte before it has 7 bits of the number, the lowest first.
abbrev pub IsUnsigned : ℕ → List ℕ → ℕ → Type 0
IsUnsigned bits [] n = ⊥
IsUnsigned bits (b ∷ []) n = (b < 128) × (b < 2 ^ bits) × (n ≡ b)
IsUnsigned bits (b ∷ c ∷ bs) n = (128 ≤ b) × (7 < bits) × ((high : ℕ) × IsUnsigned (bits - 7) (c ∷ bs) high × (n ≡ high * 128 + (b - 128)))

-- The same of a signed number. The last byte is one of two's complement.
abbrev pub IsSigned : ℕ → List ℕ → ℤ → Type 0
IsSigned bits [] n = ⊥
IsSigned bits (b ∷ []) n = ((b < 64) × (b < 2 ^ (bits - 1)) × (n ≡ pos b)) ⊎ ((64 ≤ b) × (b < 128) × (128 ≤ b + 2 ^ (bits - 1)) × (n ≡ pos b -ℤ pos 128))
IsSigned bits (b ∷ c ∷ bs) n = (128 ≤ b) × (7 < bits) × ((high : ℤ) × IsSigned (bits - 7) (c ∷ bs) high × (n ≡ high *ℤ pos 128 +ℤ pos (b - 128)))

-- what a signed number of bits + 1 bits lies within
abbrev pub IsWithin : ℕ → ℤ → Type 0
IsWithin bits n = (neg_ℤ (pos (2 ^ bits)) ≤ℤ n) × (n <ℤ pos (2 ^ bits))

-- a number at the front of bytes, and what follows it
abbrev pub UnsignedAt : ℕ → List ℕ → ℕ → List ℕ → Type 0
UnsignedAt bits bytes n rest = (front : List ℕ) × IsUnsigned bits front n × (bytes ≡ front ++ rest)

abbrev pub SignedAt : ℕ → List ℕ → ℤ → List ℕ → Type 0
SignedAt bits bytes n rest = (front : List ℕ) × IsSigned bits front n × (bytes ≡ front ++ rest)

-- ---- the same from left to right

-- the number, with seven more bits below it
abbrev pub with_low : ℕ → Result (ℕ × List ℕ) Leb → Result (ℕ × List ℕ) Leb
with_low b (Ok x) = Ok (x.0 * 128 + b, x.1)
with_low b (Err e) = Err e

abbrev pub with_low_z : ℕ → Result (ℤ × List ℕ) Leb → Result (ℤ × List ℕ) Leb
with_low_z b (Ok x) = Ok (x.0 *ℤ pos 128 +ℤ pos b, x.1)
with_low_z b (Err e) = Err e

-- the unsigned number at the front, and the bytes after it
abbrev pub unsigned_at : ℕ → List ℕ → Result (ℕ × List ℕ) Leb
unsigned_at bits [] = Err Short
unsigned_at bits (b ∷ bs) =
    if nat_lt b 128
    then (if nat_lt b (2 ^ bits) then Ok (b, bs) else Err Long)
    else (if nat_le bits 7 then Err Long else with_low (b - 128) (unsigned_at (bits - 7) bs))

-- the signed number at the front, and the bytes after it
abbrev pub signed_at : ℕ → List ℕ → Result (ℤ × List ℕ) Leb
signed_at bits [] = Err Short
signed_at bits (b ∷ bs) =
    if nat_lt b 64
    then (if nat_lt b (2 ^ (bits - 1)) then Ok (pos b, bs) else Err Long)
    else (if nat_lt b 128
    then (if nat_le 128 (b + 2 ^ (bits - 1)) then Ok (pos b -ℤ pos 128, bs) else Err Long)
    else (if nat_le bits 7 then Err Long else with_low_z (b - 128) (signed_at (bits - 7) bs)))
