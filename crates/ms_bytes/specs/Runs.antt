-- Steps, one after the other, as long as there is another one to take.
use Rattle.std.specs.Prelude.{◌≡◌, ℕ, zero, suc, ◌<◌, Bool, true, false, List, length, Ok, Err, if◌then◌else◌}
use Rattle.ms_bytes.specs.Reading.{◌>>=◌, Reader}
use Rattle.ms_bytes.specs.Format.{Format}

-- The steps from the state st at the text s to the state last at the text u: there is no further one there.
pub data Runs {E F S : Type 0} (going : S → List E → Bool) (step : S → Format E F S) : S → List E → S → List E → Type 0 where
  rests : {st : S} {s : List E} → going st s ≡ false → Runs going step st s st s
  goes : {st last : S} {s t u : List E} (next : S) → going st s ≡ true → (step st).spelled s next t → Runs going step next t last u → Runs going step st s last u

-- at most so many steps; a text has no more than it has items, since each takes one
unfoldable pub run_at : {E F S : Type 0} → (ℕ → List E → F) → (S → List E → Bool) → (S → Format E F S) → ℕ → S → Reader E F S
run_at fault going step zero st end s = if going st s then Err (fault end s) else Ok (st, s)
run_at fault going step (suc n) st end s = if going st s then ((step st).read end s >>= λ x. run_at fault going step n x.0 end x.1) else Ok (st, s)

-- each step takes an item
abbrev pub TakesItem : {E F S : Type 0} → (S → List E → Bool) → (S → Format E F S) → Type 0
TakesItem {E} {F} {S} going step = (st : S) (s : List E) (x : S) (t : List E) → going st s ≡ true → (step st).spelled s x t → length t < length s
