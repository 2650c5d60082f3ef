-- Words and numbers of jobs and schedules.
use Rattle.std.specs.Prelude.{◌==◌, ℕ, ◌+◌, ◌-◌, ◌*◌, not, ◌&&◌, List, [], ◌∷◌, length, nat_le, Option, Some, None, filter, option_and_then, if◌then◌else◌}
use Rattle.std.specs.Char.{is_ascii_digit}
use Rattle.std.specs.List.{slice_split}

-- the words of a line: what stands between its spaces
abbrev pub words : List ℕ → List (List ℕ)
words line = filter (λ word. not (length word == 0)) (slice_split (λ b. b == 32) line)

-- the number of decimal digits that stand behind digits of the number n
abbrev pub number_behind : ℕ → List ℕ → Option ℕ
number_behind n [] = Some n
number_behind n (b ∷ bs) = if is_ascii_digit b then number_behind (n * 10 + (b - 48)) bs else None

-- a number that is from low to high
abbrev pub within : ℕ → ℕ → ℕ → Option ℕ
within low high n = if nat_le low n && nat_le n high then Some n else None

-- the number of a word of decimal digits alone, where it is from low to high; zeros may stand in front
abbrev pub number_within : ℕ → ℕ → List ℕ → Option ℕ
number_within low high word = if length word == 0 then None else option_and_then (within low high) (number_behind 0 word)
