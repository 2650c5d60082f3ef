-- What is read of tokens, and where they cease to be the beginning of a translation unit (C11, 6.9).
use Rattle.std.specs.Prelude.{◌≡◌, ℕ, ◌≤◌, List, [], ◌∷◌, ◌++◌, Result, Ok, Err}
use Rattle.c_token.specs.declared.word.Token.{Token}
use Rattle.c_tree.specs.declared.external.External.{External}
use Rattle.c_tree.specs.ExternalHeights.{unit_height}
use Rattle.c_tree.specs.Grammar.{IsUnit}
use Rattle.c_parse.specs.declared.fault.CParse.{CParse}
use Rattle.c_parse.specs.declared.fault.CParse.TheVariants.{Syntax, TooDeep, Memory}

-- the greatest height of a unit that is read
abbrev pub most_high : ℕ
most_high = 200

-- By the grammar these tokens are that unit, and it isn't too high.
pub record Parses (tokens : List Token) (unit : List External) : Type 0 where
  pub is_unit : IsUnit tokens unit
  pub low : unit_height unit ≤ most_high

-- With these tokens, and some more, a unit of at most this height begins.
pub record Begins (limit : ℕ) (front : List Token) : Type 0 where
  pub rest : List Token
  pub unit : List External
  pub is_unit : IsUnit (front ++ rest) unit
  pub low : unit_height unit ≤ limit

abbrev pub NoneBegins : ℕ → List Token → Type 0
NoneBegins limit front = Begins limit front → ⊥

-- The first place up to which no unit begins that is low enough: `Syntax` where none begins at all, `TooDeep` where each
-- is too high. The tokens end at `end`.
pub data Stops (tokens : List Token) (end : ℕ) : CParse → Type 0 where
  -- no unit begins with the tokens up to this one
  syntax : (front : List Token) (t : Token) (rest : List Token) → tokens ≡ front ++ t ∷ rest → Begins most_high front
      → ((limit : ℕ) → NoneBegins limit (front ++ t ∷ [])) → Stops tokens end (Syntax t.at)
  -- units begin with the tokens up to this one, each of them too high
  too_deep : (front : List Token) (t : Token) (rest : List Token) (limit : ℕ) → tokens ≡ front ++ t ∷ rest → Begins most_high front
      → Begins limit (front ++ t ∷ []) → NoneBegins most_high (front ++ t ∷ []) → Stops tokens end (TooDeep t.at)
  -- a unit begins with all the tokens, and they are none
  unfinished : Begins most_high tokens → ((unit : List External) → IsUnit tokens unit → ⊥) → Stops tokens end (Syntax end)

-- this is where the tokens stop, unless memory ran out
abbrev pub Tells : List Token → ℕ → CParse → Type 0
Tells tokens end Memory = Unit {0}
Tells tokens end fault = Stops tokens end fault

-- the whole answer
abbrev pub ParsesTo : List Token → ℕ → Result (List External) CParse → Type 0
ParsesTo tokens end (Ok unit) = Parses tokens unit
ParsesTo tokens end (Err fault) = Tells tokens end fault
