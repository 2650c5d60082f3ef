-- What code gives on the way: a value, and the places of wrong identifiers behind those so far.
use Rattle.std.specs.Prelude.{◌≡◌, ◌++◌, ℕ, List}
use Rattle.ms_text_grammar.specs.Identifiers.{With}

pub record Adds {A : Type 0} (old new : List ℕ) (given : A) (x : With A) : Type 0 where
  pub value_is : given ≡ x.value
  pub wrong_is : new ≡ old ++ x.wrong
