-- What a text says, and why it says nothing (WebAssembly 1.0, chapter 6).
use Rattle.std.specs.Prelude.{◌≡◌, ℕ, ◌≤◌, List, [], Some, None, All, Contains}
use Rattle.ms_module.specs.declared.module.Module.{Module}
use Rattle.ms_text_lex.specs.declared.token.Token.{Token}
use Rattle.ms_text_lex.specs.Lexing.{Lexes, LexStops}
use Rattle.ms_text_lex.specs.Fault as lexing
use Rattle.ms_text_grammar.specs.declared.fault.TextFault.{TextFault}
use Rattle.ms_text_grammar.specs.declared.surface.Field.{Field}
use Rattle.ms_text_grammar.specs.Bounds.{Bounds, usual}
use Rattle.ms_text_grammar.specs.Fields.{file_within}
use Rattle.ms_text_grammar.specs.Scans.{first_stop, too_deep}
use Rattle.ms_text_grammar.specs.TypeUses.{AllAgree}
use Rattle.ms_text_grammar.specs.Elaborating.{module_of}

-- Tokens spell fields within bounds: they are a file by the grammar, each type use that names a type field and writes a type writes
-- that of the field, and parentheses are not too deep.
pub record FieldsSpelledWithin (bounds : Bounds) (source : List ℕ) (tokens : List Token) (fields : List Field) : Type 0 where
  pub grammar : (file_within source bounds).spelled tokens fields []
  pub agrees : AllAgree source fields
  pub shallow : too_deep bounds.parens 0 tokens ≡ None

-- A text spells a module within bounds: its bytes are tokens, these are fields, each identifier in them is known and none repeated,
-- and with identifiers replaced the fields are the module.
pub record TextSpellsWithin (bounds : Bounds) (bytes : List ℕ) (m : Module) : Type 0 where
  pub tokens : List Token
  pub fields : List Field
  pub lexed : Lexes bytes tokens
  pub spelled : FieldsSpelledWithin bounds bytes tokens fields
  pub named : (module_of bytes fields).wrong ≡ []
  pub is : m ≡ (module_of bytes fields).value

-- the same within the usual bounds, within which texts are read
abbrev pub FieldsSpelled : List ℕ → List Token → List Field → Type 0
FieldsSpelled source tokens fields = FieldsSpelledWithin usual source tokens fields

abbrev pub TextSpells : List ℕ → Module → Type 0
TextSpells bytes m = TextSpellsWithin usual bytes m

-- A text spells a module within some bounds: the standard has none.
abbrev pub TextSpellsUnbounded : List ℕ → Module → Type 0
TextSpellsUnbounded bytes m = (bounds : Bounds) × TextSpellsWithin bounds bytes m

-- why a text is no module
pub data TextStop : Type 0 where
  lex : lexing.Fault → TextStop
  syntax : TextFault → TextStop
  name : ℕ → TextStop

-- The whole file is lexed first; then the first fault of the grammar stands; then the least place of an identifier.
abbrev pub Stops : List ℕ → TextStop → Type 0
Stops bytes (lex f) = LexStops bytes f
Stops bytes (syntax f) = (tokens : List Token) × Lexes bytes tokens × (first_stop bytes tokens ≡ Some f)
Stops bytes (name at) =
    (tokens : List Token) × (fields : List Field) × Lexes bytes tokens × FieldsSpelled bytes tokens fields × Contains (module_of bytes fields).wrong at × All (λ n. at ≤ n) (module_of bytes fields).wrong
