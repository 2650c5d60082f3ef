-- Reading from left to right: what stands at the front and what is left, or the first fault.
use Rattle.std.specs.Prelude.{ℕ, List, Result, Ok, Err}

-- A reader of texts that are made of E (bytes, tokens), with faults F. It is given the place at which the text ends, and
-- what is left of the text.
abbrev pub Reader : Type 0 → Type 0 → Type 0 → Type 0
Reader E F A = ℕ → List E → Result (A × List E) F

infixl 10 ◌>>=◌
abbrev pub ◌>>=◌ : {F A B : Type 0} → Result A F → (A → Result B F) → Result B F
(Ok x) >>= f = f x
(Err e) >>= f = Err e

abbrev pub okay : {F A : Type 0} → A → Result A F
okay x = Ok x

abbrev pub refused : {F A : Type 0} → F → Result A F
refused fault = Err fault

-- the same value, or this fault in place of any
abbrev pub blamed : {F G A : Type 0} → (G → F) → Result A G → Result A F
blamed fault (Ok x) = Ok x
blamed fault (Err g) = Err (fault g)
