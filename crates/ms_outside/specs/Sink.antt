-- Putting a piece into a sink.
use Rattle.std.specs.Prelude.{◌≡◌, ℕ, List, ◌++◌, Option, Some, None, MatchOption}
use Rattle.ms_outside.specs.declared.sink.Put.{Put}
use Rattle.ms_outside.specs.declared.sink.Put.TheVariants.{Done, Failed, Memory}
use Rattle.ms_outside.specs.Faults.{CountsFault}

-- a list is the front of another
abbrev pub IsFront : List ℕ → List ℕ → Type 0
IsFront front whole = (rest : List ℕ) × (whole ≡ front ++ rest)

-- what the sink holds after a put of the piece that gave this, where it held these bytes
abbrev pub PutsInto : Put → List ℕ → List ℕ → Option (List ℕ) → Type 0
PutsInto Done piece held new = new ≡ Some (held ++ piece)
PutsInto Failed piece held new = (front : List ℕ) × IsFront front piece × (new ≡ Some (held ++ front))
PutsInto Memory piece held new = new ≡ Some held

-- the same of a sink that may not tell what it holds
abbrev pub Puts : Put → List ℕ → Option (List ℕ) → Option (List ℕ) → Type 0
Puts answer piece old new = MatchOption old (new ≡ None) (λ held. PutsInto answer piece held new)

-- the count of faults after a put that gave this
abbrev pub CountsPut : Put → ℕ → ℕ → Type 0
CountsPut Done before after = after ≡ before
CountsPut Failed before after = CountsFault before after
CountsPut Memory before after = after ≡ before
