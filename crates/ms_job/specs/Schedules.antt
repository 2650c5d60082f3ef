-- Schedules: numbers separated by spaces, LF or CR LF.
use Rattle.std.specs.Prelude.{◌==◌, ℕ, ◌+◌, Bool, true, false, ◌&&◌, ◌||◌, List, [], ◌∷◌, ◌++◌, slice_index, Result, Ok, Err, if◌then◌else◌}
use Rattle.std.specs.Option.{option_map_or}
use Rattle.ms_job.specs.Words.{number_within}
use Rattle.ms_job.specs.declared.fault.SchedFault.{SchedFault}
use Rattle.ms_job.specs.declared.fault.SchedFault.TheVariants.{At}

-- whether a space, an LF, or a CR before an LF stands in front
abbrev pub is_apart : List ℕ → Bool
is_apart [] = false
is_apart (b ∷ bs) = b == 32 || b == 10 || (b == 13 && slice_index bs 0 == 10)

-- the word in front: all bytes before the first such place
abbrev pub first_word : List ℕ → List ℕ
first_word [] = []
first_word (b ∷ bs) = if is_apart (b ∷ bs) then [] else b ∷ first_word bs

-- the words of a text, each behind its place, where the text begins at a place, perhaps inside a word
abbrev pub placed_words : Bool → ℕ → List ℕ → List (ℕ × List ℕ)
placed_words inside at [] = []
placed_words inside at (b ∷ bs) =
    if is_apart (b ∷ bs) then placed_words false (at + 1) bs
    else if inside then placed_words true (at + 1) bs
    else (at, first_word (b ∷ bs)) ∷ placed_words true (at + 1) bs

-- the numbers of these words, behind others, or the place of the first word that is no number below 2^32
abbrev pub numbers_behind : List ℕ → List (ℕ × List ℕ) → Result (List ℕ) SchedFault
numbers_behind ns [] = Ok ns
numbers_behind ns (word ∷ more) =
    option_map_or (λ n. numbers_behind (ns ++ n ∷ []) more) (number_within 0 4294967295 word.1) (Err (At word.0))

-- the numbers of a text, or its first fault
abbrev pub schedule_in : List ℕ → Result (List ℕ) SchedFault
schedule_in text = numbers_behind [] (placed_words false 0 text)
