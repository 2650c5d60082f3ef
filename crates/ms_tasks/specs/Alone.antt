-- Entries of which those of one task alone name one.
use Rattle.std.specs.Prelude.{◌==◌, ℕ, List, [], ◌∷◌, if◌then◌else◌, Option, Some, None}

-- each entry that names another task than this one names an absent one instead
abbrev pub alone : (n absent : ℕ) → List ℕ → List ℕ
alone n absent [] = []
alone n absent (k ∷ ks) = (if k == n then k else absent) ∷ alone n absent ks

-- where one of so many tasks is named alone, the number behind the last one stands for an absent task
abbrev pub by_only : Option ℕ → (tasks : ℕ) → List ℕ → List ℕ
by_only None tasks ks = ks
by_only (Some n) tasks ks = alone n tasks ks
