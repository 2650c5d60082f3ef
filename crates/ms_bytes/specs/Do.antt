-- Formats one after the other, as `do` blocks write them.
use Rattle.ms_bytes.specs.Format.{Format}
use Rattle.ms_bytes.specs.Parts.{seq}

infixl 10 ◌>>=◌
abbrev pub ◌>>=◌ : {E F A B : Type 0} → Format E F A → (A → Format E F B) → Format E F B
a >>= f = seq a f
