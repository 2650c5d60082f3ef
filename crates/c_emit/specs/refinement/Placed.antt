-- A table of numbers, in which those of a list have indices from k on.
use Rattle.std.specs.Prelude.{ℕ, suc, List, [], ◌∷◌, slice_set}

abbrev pub placed : (table numbers : List ℕ) (k : ℕ) → List ℕ
placed is [] k = is
placed is (n ∷ ns) k = placed (slice_set is n k) ns (suc k)
