-- Bits that fit their type.
use Rattle.std.specs.Prelude.{◌≡◌, ℕ, ◌^◌, ◌<◌, ◌⊎◌, Option, Some, None}
use Rattle.ms_num.specs.Integers.{IsWidth}
use Rattle.c_types.specs.Integers.{bits}
use Rattle.c_check_types.specs.declared.constants.Constant.{Constant}

-- the widths of integer types
abbrev pub IsBits : ℕ → Type 0
IsBits w = (w ≡ 8) ⊎ ((w ≡ 16) ⊎ IsWidth w)

abbrev pub InRange : ℕ → Option ℕ → Type 0
InRange w None = Unit {0}
InRange w (Some a) = a < 2 ^ w

-- the bits of a constant fit its type
abbrev pub IsInRange : Constant → Type 0
IsInRange c = InRange (bits c.ty) c.value
