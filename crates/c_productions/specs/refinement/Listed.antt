-- What a production still wants, as a list.
use Rattle.std.specs.Prelude.{List, [], ◌∷◌}
use Rattle.c_productions.specs.declared.kind.Symbol.{Symbol}
use Rattle.c_productions.specs.declared.frame.Symbols.{Symbols}
use Rattle.c_productions.specs.declared.frame.Symbols.TheVariants as symbols

abbrev pub listed : Symbols → List Symbol
listed symbols.None = []
listed (symbols.One a) = a ∷ []
listed (symbols.Two a b) = a ∷ b ∷ []
listed (symbols.Three a b c) = a ∷ b ∷ c ∷ []
listed (symbols.Four a b c d) = a ∷ b ∷ c ∷ d ∷ []
listed (symbols.Five a b c d e) = a ∷ b ∷ c ∷ d ∷ e ∷ []
listed (symbols.Six a b c d e f) = a ∷ b ∷ c ∷ d ∷ e ∷ f ∷ []
