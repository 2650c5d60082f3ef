-- Where tokens begin.
use Rattle.std.specs.Prelude.{ℕ, ◌+◌, ◌≤◌, List, [], ◌∷◌}
use Rattle.c_token.specs.declared.word.Token.{Token}

-- each token begins within the text, and behind the place where the one before it begins
abbrev pub Rises : ℕ → ℕ → List Token → Type 0
Rises from size [] = from ≤ size
Rises from size (t ∷ ts) = (from ≤ t.at) × Rises (t.at + 1) size ts
