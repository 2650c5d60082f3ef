-- Why bytes are no tokens of C, and where.
use Rattle.std.specs.Prelude.{ℕ, Option, Some, List}
use Rattle.ms_bytes.specs.Spot.{place_of}
use Rattle.ms_bytes.specs.Format.{Format}
use Rattle.ms_bytes.specs.Parts.{seq}

pub data Fault : Type 0 where
  -- no token, blank or comment begins there, or an escape that is none
  Char : ℕ → Fault
  -- a comment, character constant or string literal begins there that does not end
  Unclosed : ℕ → Fault
  -- a line begins there with a `#` that is no inclusion of a known header
  Directive : ℕ → Fault
  -- an integer constant begins there that no type holds
  TooBig : ℕ → Fault

abbrev pub char_here : ℕ → List ℕ → Fault
char_here end s = Char (place_of end s)

abbrev pub char_at : ℕ → ℕ → List ℕ → Fault
char_at at end s = Char at

abbrev pub unclosed : ℕ → ℕ → List ℕ → Fault
unclosed at end s = Unclosed at

abbrev pub directive : ℕ → ℕ → List ℕ → Fault
directive at end s = Directive at

abbrev pub too_big : ℕ → ℕ → List ℕ → Fault
too_big at end s = TooBig at

-- any byte
abbrev pub any : ℕ → Option ℕ
any b = Some b

infixl 10 ◌>>=◌
abbrev pub ◌>>=◌ : {A B : Type 0} → Format ℕ Fault A → (A → Format ℕ Fault B) → Format ℕ Fault B
a >>= f = seq a f
