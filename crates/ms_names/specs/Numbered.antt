-- Names that have numbers: each the number of different names that were put before it.
use Rattle.std.specs.Prelude.{◌≡◌, ℕ, List, [], ◌∷◌, ◌++◌, length, position, Option, Some, None, Result, Ok, Err}
use Rattle.std.specs.Str.{bytes_eq}
use Rattle.ms_names.specs.declared.table.Seen.{Seen}
use Rattle.ms_names.specs.declared.table.Seen.TheVariants.{New, Old}

-- the number of a name, in the list of names in the order in which they were first put
abbrev pub number_of : List (List ℕ) → List ℕ → Option ℕ
number_of names name = position (bytes_eq name) names

-- A name was put: it has its number already, or it gets the next one and stands last. Where memory ran out nothing has changed.
abbrev pub Puts : {E : Type 0} → List (List ℕ) → List (List ℕ) → List ℕ → Result Seen E → Type 0
Puts old new name (Ok (Old n)) = (number_of old name ≡ Some n) × (new ≡ old)
Puts old new name (Ok (New n)) = (number_of old name ≡ None) × (n ≡ length old) × (new ≡ old ++ name ∷ [])
Puts old new name (Err e) = new ≡ old
