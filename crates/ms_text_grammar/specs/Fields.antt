-- Fields and files (WebAssembly 1.0, 6.6.13).
use Rattle.std.specs.Prelude.{◌++◌, ◌&&◌, ◌||◌, ℕ, Bool, true, false, not, List, [], ◌∷◌, Option, Some, None, is_none, if◌then◌else◌}
use Rattle.std.specs.Str.{bytes_eq}
use Rattle.std.proofs.Common.{arith}
use Rattle.ms_bytes.specs.Do.{◌>>=◌}
use Rattle.ms_bytes.specs.Parts.{choose, ended, item, never, pure}
use Rattle.ms_bytes.specs.Runs.{TakesItem}
use Rattle.ms_bytes.specs.RunLaws.{takes_least}
use Rattle.ms_bytes.specs.Repetition.{run}
use Rattle.ms_text_lex.specs.declared.token.Token.{Token}
use Rattle.ms_text_lex.specs.Tokens.{text_of}
use Rattle.ms_text_grammar.specs.declared.fault.TextFault.{TextFault}
use Rattle.ms_text_grammar.specs.declared.surface.ExternKind.TheVariants as kind
use Rattle.ms_text_grammar.specs.declared.surface.Field.{Field}
use Rattle.ms_text_grammar.specs.declared.surface.Field.TheVariants as field
use Rattle.ms_text_grammar.specs.declared.word.Word.{Word}
use Rattle.ms_text_grammar.specs.declared.word.Word.TheVariants as word
use Rattle.ms_text_grammar.specs.Keywords.{spelling}
use Rattle.ms_text_grammar.specs.Tokens.{begins, is_close, is_keyword}
use Rattle.ms_text_grammar.specs.Faults.{Textual, bad, kept}
use Rattle.ms_text_grammar.specs.Parts.{closing, opening, optional_id, the}
use Rattle.ms_text_grammar.specs.Numbers.{if_so, index}
use Rattle.ms_text_grammar.specs.Types.{type_field}
use Rattle.ms_text_grammar.specs.Bounds.{Bounds, usual}
use Rattle.ms_text_grammar.specs.Entries.{data_field, element_field, entry_field, export_field, import_field}

-- whether the module has parentheses, the fields so far, whether one of them is a start, and whether one is a definition
pub record File : Type 0 where
  pub bracketed : Bool
  pub fields : List Field
  pub started : Bool
  pub defined : Bool

abbrev pub first_file : Bool → File
first_file bracketed = record { bracketed = bracketed; fields = []; started = false; defined = false }

-- the words that fields begin with
unfoldable pub field_words : List Word
field_words =
    word.Type ∷ word.Import ∷ word.Func ∷ word.Table ∷ word.Memory ∷ word.Global ∷ word.Export ∷ word.Start ∷ word.Elem ∷ word.Data ∷ []

abbrev pub among : List Word → List ℕ → Option Word
among [] text = None
among (w ∷ ws) text = if bytes_eq text (spelling w) then Some w else among ws text

-- one start at most; no import behind a definition
abbrev pub may_stand : File → Word → Bool
may_stand file word.Start = not file.started
may_stand file word.Import = not file.defined
may_stand file _ = true

abbrev pub standing : File → Option Word → Option Word
standing file None = None
standing file (Some w) = kept (may_stand file w) w

abbrev pub is_start : Field → Bool
is_start (field.Start x) = true
is_start _ = false

abbrev pub is_definition : Field → Bool
is_definition (field.Entry e) = is_none e.import
is_definition _ = false

abbrev pub with_field : Field → File → File
with_field f file = record { bracketed = file.bracketed; fields = file.fields ++ f ∷ []; started = file.started || is_start f; defined = file.defined || is_definition f }

module _ (source : List ℕ) (bounds : Bounds) where
  abbrev pub field_word : File → Token → Option Word
  field_word file t = standing file (if_so (is_keyword t.kind) (among field_words (text_of source t)))

  -- behind the word of a field
  unfoldable pub behind_field : Bool → Word → Textual Field
  behind_field defined word.Type = do
    f ← type_field source
    pure (field.Type f)
  behind_field defined word.Import = do
    e ← import_field source bounds
    pure (field.Entry e)
  behind_field defined word.Func = do
    e ← entry_field source bounds defined kind.Func
    pure (field.Entry e)
  behind_field defined word.Table = do
    e ← entry_field source bounds defined kind.Table
    pure (field.Entry e)
  behind_field defined word.Memory = do
    e ← entry_field source bounds defined kind.Memory
    pure (field.Entry e)
  behind_field defined word.Global = do
    e ← entry_field source bounds defined kind.Global
    pure (field.Entry e)
  behind_field defined word.Export = export_field source bounds
  behind_field defined word.Start = do
    x ← index source
    pure (field.Start x)
  behind_field defined word.Elem = element_field source bounds
  behind_field defined word.Data = data_field source bounds
  behind_field defined _ = never (bad source)

  unfoldable pub next_field : File → Textual File
  next_field file = do
    begin ← opening source
    head ← item (bad source) (field_word file)
    f ← behind_field file.defined head
    close ← closing source
    pure (with_field f file)

  -- fields up to the parenthesis of the module, or up to the end
  abbrev pub fields_go : File → List Token → Bool
  fields_go file [] = file.bracketed
  fields_go file (t ∷ ts) = not (file.bracketed && is_close t.kind)

  pub next_field_takes : TakesItem {F = TextFault} fields_go next_field
  unfolding next_field
  next_field_takes = takes_least fields_go next_field (λ file. omega arith)

  unfoldable pub all_fields : Bool → Textual File
  all_fields bracketed = run (bad source) fields_go next_field next_field_takes (first_file bracketed)

  unfoldable pub file_by : Bool → Textual (List Field)
  file_by true = do
    begin ← opening source
    head ← the source word.Module
    id ← optional_id source
    last ← all_fields true
    close ← closing source
    done ← ended (bad source)
    pure last.fields
  file_by false = do
    last ← all_fields false
    done ← ended (bad source)
    pure last.fields

  -- a module in its parentheses, or its fields alone
  unfoldable pub file_within : Textual (List Field)
  file_within = choose (begins source word.Module) file_by

-- within the usual bounds
abbrev pub file : List ℕ → Textual (List Field)
file source = file_within source usual
