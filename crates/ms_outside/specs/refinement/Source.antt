-- Taking a byte from a source.
use Rattle.std.specs.Prelude.{◌≡◌, ◌<◌, ℕ, List, [], ◌∷◌, Option, Some, None, MatchOption}
use Rattle.ms_outside.specs.declared.source.Got.{Got}
use Rattle.ms_outside.specs.declared.source.Got.TheVariants.{Byte, End, Failed}
use Rattle.ms_outside.specs.Faults.{CountsFault}

-- what is left after a take that gave this, where these bytes were left
abbrev pub TakesFrom : Got → List ℕ → Option (List ℕ) → Type 0
TakesFrom (Byte b) bytes new = (rest : List ℕ) × (bytes ≡ b ∷ rest) × (new ≡ Some rest)
TakesFrom End bytes new = (bytes ≡ []) × (new ≡ Some [])
TakesFrom Failed bytes new = new ≡ Some bytes

-- the same of a source that may not tell what is left
abbrev pub Takes : Got → Option (List ℕ) → Option (List ℕ) → Type 0
Takes got old new = MatchOption old (new ≡ None) (λ bytes. TakesFrom got bytes new)

-- what was given is a byte, if there was one
abbrev pub GivesByte : Got → Type 0
GivesByte (Byte b) = b < 256
GivesByte End = Unit {0}
GivesByte Failed = Unit {0}

-- the count of faults after a take that gave this
abbrev pub CountsTake : Got → ℕ → ℕ → Type 0
CountsTake (Byte b) before after = after ≡ before
CountsTake End before after = after ≡ before
CountsTake Failed before after = CountsFault before after
