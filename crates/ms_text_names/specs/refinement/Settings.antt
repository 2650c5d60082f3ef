-- What a body stands in: the source, and what its module's identifiers and type uses stand for.
use Rattle.std.specs.Prelude.{ℕ, List}
use Rattle.ms_text_grammar.specs.TypeUses.{Scope}

pub record Setting : Type 0 where
  pub source : List ℕ
  pub scope : Scope
