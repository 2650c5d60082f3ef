-- Addresses that are marked.
use Rattle.std.specs.Prelude.{◌≡◌, ◌<◌, ◌≤◌, ℕ, suc, Bool, true, false, List, [], ◌∷◌, length, slice_get, Some}

abbrev pub IsMarked : List Bool → ℕ → Type 0
IsMarked marks k = slice_get marks k ≡ Some true

-- each address from one up to another is marked, as far as there are marks
abbrev pub AllMarked : List Bool → ℕ → ℕ → Type 0
AllMarked marks from to = (k : ℕ) → from ≤ k → k < to → k < length marks → IsMarked marks k

-- how many are marked
abbrev pub trues : List Bool → ℕ
trues [] = 0
trues (true ∷ bs) = suc (trues bs)
trues (false ∷ bs) = trues bs
