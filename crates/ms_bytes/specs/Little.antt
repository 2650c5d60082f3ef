-- Numbers as bytes, the lowest first (WebAssembly 1.0, 4.3.1).
use Rattle.std.specs.Prelude.{ℕ, zero, suc, ◌+◌, ◌*◌, ◌/◌, ◌%◌, List, [], ◌∷◌}

-- the number that bytes are
abbrev pub number_of : List ℕ → ℕ
number_of [] = 0
number_of (b ∷ bs) = b + 256 * number_of bs

-- the lowest bytes of a number, so many
abbrev pub bytes_of : ℕ → ℕ → List ℕ
bytes_of zero value = []
bytes_of (suc width) value = value % 256 ∷ bytes_of width (value / 256)
