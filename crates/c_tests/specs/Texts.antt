-- Which rows of a table are texts of C, and what becomes of a text: its typed tree, or why there is none.
use Rattle.std.specs.Prelude.{◌==◌, not, ℕ, Bool, false, List, [], ◌∷◌, length, codes, Result, Ok, Err}
use Rattle.std.specs.List.{starts_with}
use Rattle.c_token.specs.declared.word.Token.{Token}
use Rattle.c_tree.specs.declared.external.External.{External}
use Rattle.c_typed.specs.declared.unit.TypedUnit.{TypedUnit}
use Rattle.c_lex.specs.Lexing.{Lexes}
use Rattle.c_lex.specs.Readers.{FirstFault, fault_of}
use Rattle.c_parse.specs.Units.{Parses, Tells}
use Rattle.c_check.specs.refinement.Views.{Checks}
use Rattle.c_tests.specs.declared.refusal.Refusal.{Refusal}
use Rattle.c_tests.specs.declared.refusal.Refusal.TheVariants.{Check, Lex, Parse}

-- neither an empty row nor a heading
abbrev pub is_text : List ℕ → Bool
is_text [] = false
is_text (b ∷ s) = not (starts_with ◌==◌ (b ∷ s) (codes "// "))

-- The bytes are tokens (C11, 6.4), which are that unit (6.9).
pub record Spells (bytes : List ℕ) (unit : List External) : Type 0 where
  pub tokens : List Token
  pub lexed : Lexes bytes tokens
  pub parsed : Parses tokens unit

-- the cause that is told; want of memory says nothing
abbrev pub Refuses : List ℕ → Refusal → Type 0
Refuses bytes (Lex fault) = FirstFault bytes (fault_of fault)
Refuses bytes (Parse fault) = (tokens : List Token) × Lexes bytes tokens × Tells tokens (length bytes) fault
Refuses bytes (Check fault) = (unit : List External) × Spells bytes unit × Checks unit (Err fault)

-- the whole answer
abbrev pub TypesText : List ℕ → Result TypedUnit Refusal → Type 0
TypesText bytes (Ok typed) = (unit : List External) × Spells bytes unit × Checks unit (Ok typed)
TypesText bytes (Err refusal) = Refuses bytes refusal
