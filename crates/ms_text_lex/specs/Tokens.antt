-- Tokens in a source.
use Rattle.std.specs.Prelude.{◌-◌, ◌<◌, ◌≤◌, ℕ, List, [], ◌∷◌, take, drop}
use Rattle.ms_text_lex.specs.declared.token.Token.{Token}

-- the bytes of a token
abbrev pub text_of : List ℕ → Token → List ℕ
text_of source token = take (token.end - token.at) (drop token.at source)

-- each token has a byte at least, begins where the one before it ends or later, and ends within the text
abbrev pub Rises : ℕ → ℕ → List Token → Type 0
Rises from size [] = from ≤ size
Rises from size (t ∷ ts) = (from ≤ t.at) × (t.at < t.end) × Rises t.end size ts
