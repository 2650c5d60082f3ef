-- How a shelf in memory keeps its files, and the counts of failed reads.
use Rattle.std.specs.Prelude.{◌≡◌, ◌≤◌, ◌<◌, ℕ, List, [], ◌∷◌, length, String, Vec, string_bytes}
use Rattle.std.specs.FinMap.{empty, insert}
use Rattle.ms_outside.specs.declared.shelf.Fetched.{Fetched}
use Rattle.ms_outside.specs.declared.shelf.Fetched.TheVariants.{Bytes, TooLong, Failed, Memory}
use Rattle.ms_outside.specs.Files.{ByName, Counts, Files}

-- the map that entries of names and values make, of what is seen of each value
abbrev pub by_name : {V W Y : Type 0} → (V → W) → List (String Y × V) → ByName W
by_name seen [] = empty
by_name seen (entry ∷ entries) = insert (by_name seen entries) (string_bytes entry.0) (seen entry.1)

abbrev pub files_of : {Y Z : Type 0} → List (String Y × Vec ℕ Z) → Files
files_of entries = by_name (λ v. v.items) entries

abbrev pub counts_of : {Y : Type 0} → List (String Y × ℕ) → Counts
counts_of entries = by_name (λ count. count) entries

-- what a copy of these bytes gives; memory is wanted only for a copy within the limit
abbrev pub Copies : List ℕ → ℕ → Fetched → Type 0
Copies bytes limit (Bytes v) = (length bytes ≤ limit) × (v.items ≡ bytes)
Copies bytes limit TooLong = limit < length bytes
Copies bytes limit Failed = ⊥
Copies bytes limit Memory = length bytes ≤ limit
