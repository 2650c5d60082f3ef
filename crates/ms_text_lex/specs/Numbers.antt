-- What number tokens are worth (WebAssembly 1.0, 6.3.1).
use Rattle.std.specs.Prelude.{◌==◌, ◌+◌, ◌-◌, ◌*◌, ◌^◌, ℕ, ℤ, pos, ◌-ℤ◌, Bool, true, false, List, [], ◌∷◌, Option, Some, None, drop, nat_le, nat_lt, if◌then◌else◌}
use Rattle.ms_text_lex.specs.Classes.{hex}
use Rattle.ms_text_lex.specs.Words.{has_sign, is_hexadecimal}

abbrev pub digit_of : Option ℕ → ℕ
digit_of (Some d) = d
digit_of None = 0

abbrev pub radix : Bool → ℕ
radix true = 16
radix false = 10

-- what digits are worth behind those that are worth so much; underscores count nothing
abbrev pub with_digits : Bool → ℕ → List ℕ → ℕ
with_digits hexadecimal value [] = value
with_digits hexadecimal value (b ∷ s) = if b == 95 then with_digits hexadecimal value s else with_digits hexadecimal (value * radix hexadecimal + digit_of (hex b)) s

abbrev pub unsigned_value : List ℕ → ℕ
unsigned_value s = if is_hexadecimal s then with_digits true 0 (drop 2 s) else with_digits false 0 s

abbrev pub magnitude : List ℕ → ℕ
magnitude s = if has_sign s then unsigned_value (drop 1 s) else unsigned_value s

abbrev pub is_negative : List ℕ → Bool
is_negative [] = false
is_negative (b ∷ s) = b == 45

-- a number of so many bits, signed or unsigned, as a signed one; none where it is out of range
abbrev pub constant_of : ℕ → List ℕ → Option ℤ
constant_of bits s =
    if is_negative s then (if nat_le (magnitude s) (2 ^ (bits - 1)) then Some (pos 0 -ℤ pos (magnitude s)) else None) else
    if nat_lt (magnitude s) (2 ^ (bits - 1)) then Some (pos (magnitude s)) else
    if nat_lt (magnitude s) (2 ^ bits) then Some (pos (magnitude s) -ℤ pos (2 ^ bits)) else None

-- a number of 32 bits without a sign; none where it has one or is out of range
abbrev pub index_of : List ℕ → Option ℕ
index_of s = if has_sign s then None else if nat_lt (magnitude s) (2 ^ 32) then Some (magnitude s) else None
