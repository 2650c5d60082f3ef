-- Reading an item, and the end of a text.
use Rattle.std.specs.Prelude.{◌≡◌, ℕ, Option, Some, None, List, [], ◌∷◌, Result, Ok, Err}
use Rattle.ms_bytes.specs.Reading.{Reader}

-- the item at the front, where it is a value
abbrev pub taken : {E F A : Type 0} → F → List E → Option A → Result (A × List E) F
taken fault s (Some x) = Ok (x, s)
taken fault s None = Err fault

abbrev pub item_at : {E F A : Type 0} → (ℕ → List E → F) → (E → Option A) → Reader E F A
item_at fault f end [] = Err (fault end [])
item_at fault f end (e ∷ s) = taken (fault end (e ∷ s)) s (f e)

abbrev pub ItemSpelled : {E A : Type 0} → (E → Option A) → List E → A → List E → Type 0
ItemSpelled {E} f s x t = (e : E) × (s ≡ e ∷ t) × (f e ≡ Some x)

abbrev pub ended_at : {E F : Type 0} → (ℕ → List E → F) → Reader E F (Unit {0})
ended_at fault end [] = Ok (tt, [])
ended_at fault end (e ∷ s) = Err (fault end (e ∷ s))
