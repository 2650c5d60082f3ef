-- The files of a shelf: a finite map from names to bytes.
use Rattle.std.specs.Prelude.{ℕ, List, [], unwrap_or}
use Rattle.std.specs.declared.cmp.Ordering.{Ordering}
use Rattle.std.specs.Ordering.{nat_cmp}
use Rattle.std.specs.Cmp.Lexicographic.{slice_cmp}
use Rattle.std.specs.FinMap.{FinMap, get}

-- names are compared by their bytes
abbrev pub name_cmp : List ℕ → List ℕ → Ordering
name_cmp = slice_cmp nat_cmp

abbrev pub ByName : Type 0 → Type 0
ByName X = FinMap name_cmp X

abbrev pub Files : Type 0
Files = ByName (List ℕ)

-- the bytes of a file; an absent one has none
abbrev pub bytes_of : Files → List ℕ → List ℕ
bytes_of files name = unwrap_or (get files name) []

-- how many reads of each name have failed
abbrev pub Counts : Type 0
Counts = ByName ℕ

abbrev pub count_of : Counts → List ℕ → ℕ
count_of counts name = unwrap_or (get counts name) 0
