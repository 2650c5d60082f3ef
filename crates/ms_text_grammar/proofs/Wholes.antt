-- The bodies of what the grammar spells as a file are balanced.
use Rattle.std.proofs.Common.{◌≡◌, ℕ, Bool, true, false, List, [], ◌∷◌, ◌++◌, Option, Some, None, refl, sym, subst}
use Rattle.ms_bytes.specs.Runs.{Runs, goes, rests}
use Rattle.ms_text_lex.specs.declared.token.Token.{Token}
use Rattle.ms_text_grammar.specs.declared.fault.TextFault.{TextFault}
use Rattle.ms_text_grammar.specs.declared.surface.Entry.{Entry}
use Rattle.ms_text_grammar.specs.declared.surface.ExternKind.{ExternKind}
use Rattle.ms_text_grammar.specs.declared.surface.ExternKind.TheVariants as kind
use Rattle.ms_text_grammar.specs.declared.surface.Field.{Field}
use Rattle.ms_text_grammar.specs.declared.surface.ImportNames.{ImportNames}
use Rattle.ms_text_grammar.specs.declared.word.Word.{Word}
use Rattle.ms_text_grammar.specs.declared.word.Word.TheVariants as word
use Rattle.ms_text_grammar.specs.refinement.Balance.{AreWhole, FieldIsWhole, IsWhole, ItemIsWhole}
use Rattle.ms_text_grammar.specs.Bounds.{Bounds, usual}
use Rattle.ms_text_grammar.specs.Tokens.{begins, is_word, next}
use Rattle.ms_text_grammar.specs.Keywords.{spelling}
use Rattle.ms_text_grammar.specs.Entries.{content, data_field, definition, element_field, entry_field, export_field, import_field, imported, memory_by, offset, offset_by, table_by}
use Rattle.ms_text_grammar.specs.Faults.{Textual}
use Rattle.ms_text_grammar.specs.Fields.{File, all_fields, behind_field, fields_go, file, file_by, file_within, next_field}
use Rattle.ms_text_grammar.proofs.Balances.{body_balanced, folded_balanced}

abbrev Gives : {A : Type 0} → (A → Type 0) → Textual A → Type 0
Gives {A} P f = (s : List Token) (x : A) (t : List Token) → f.spelled s x t → P x

abbrev so : {A : Type 0} → (P : A → Type 0) → (x y : A) → x ≡ y → P y → P x
so P x y e h = subst P (sym e) h

abbrev EntryIsWhole : Entry → Type 0
EntryIsWhole e = ItemIsWhole e.item

more : (fs : List Field) (f : Field) → AreWhole fs → FieldIsWhole f → AreWhole (fs ++ f ∷ [])
more [] f h k = (k, tt)
more (g ∷ fs) f h k = (h.0, more fs f h.1 k)

module _ (source : List ℕ) (bounds : Bounds) where
  imported_gives : (k : ExternKind) → Gives ItemIsWhole (imported source bounds k)
  unfolding imported
  imported_gives kind.Func s x t h = so ItemIsWhole x _ h.3.3.0 refl
  imported_gives kind.Table s x t h = so ItemIsWhole x _ h.3.0 tt
  imported_gives kind.Memory s x t h = so ItemIsWhole x _ h.3.0 tt
  imported_gives kind.Global s x t h = so ItemIsWhole x _ h.3.0 refl

  table_gives : (b : Bool) → Gives ItemIsWhole (table_by source bounds b)
  unfolding table_by
  table_gives true s x t h = so ItemIsWhole x _ h.3.3.3.3.3.0 tt
  table_gives false s x t h = so ItemIsWhole x _ h.3.3.0 tt

  memory_gives : (b : Bool) → Gives ItemIsWhole (memory_by source bounds b)
  unfolding memory_by
  memory_gives true s x t h = so ItemIsWhole x _ h.3.3.3.3.0 tt
  memory_gives false s x t h = so ItemIsWhole x _ h.3.3.0 tt

  definition_gives : (k : ExternKind) → Gives ItemIsWhole (definition source bounds k)
  unfolding definition
  definition_gives kind.Func s x t h = so ItemIsWhole x _ h.3.3.3.0 (body_balanced source bounds.blocks h.3.1 h.3.3.0 h.3.3.1 h.3.3.2)
  definition_gives kind.Table s x t h = table_gives (next (is_word source (spelling word.Funcref)) s) s x t h
  definition_gives kind.Memory s x t h = memory_gives (begins source word.Data s) s x t h
  definition_gives kind.Global s x t h = so ItemIsWhole x _ h.3.3.0 (body_balanced source bounds.blocks h.1 h.3.0 h.3.1 h.3.2)

  content_gives : (k : ExternKind) (names : Option ImportNames) → Gives ItemIsWhole (content source bounds k names)
  unfolding content
  content_gives k (Some names) = imported_gives k
  content_gives k None = definition_gives k

  entry_gives : (defined : Bool) (k : ExternKind) → Gives EntryIsWhole (entry_field source bounds defined k)
  unfolding entry_field
  entry_gives defined k s x t h = so EntryIsWhole x _ h.3.3.3.3.0 (content_gives k h.3.3.0 h.3.3.1 h.3.3.3.0 h.3.3.3.1 h.3.3.3.2)

  import_gives : Gives EntryIsWhole (import_field source bounds)
  unfolding import_field
  import_gives s x t h = so EntryIsWhole x _ h.3.3.3.3.3.3.0 (imported_gives h.3.3.0 h.3.3.3.1 h.3.3.3.3.0 h.3.3.3.3.1 h.3.3.3.3.2)

  offset_by_gives : (b : Bool) → Gives IsWhole (offset_by source bounds b)
  unfolding offset_by
  offset_by_gives true s x t h = so IsWhole x _ h.3.3.3.3.0 (body_balanced source bounds.blocks h.3.1 h.3.3.0 h.3.3.1 h.3.3.2)
  offset_by_gives false s x t h = folded_balanced source bounds.blocks s x t h

  offset_gives : Gives IsWhole (offset source bounds)
  unfolding offset
  offset_gives s x t h = offset_by_gives (begins source word.Offset s) s x t h

  element_gives : Gives FieldIsWhole (element_field source bounds)
  unfolding element_field
  element_gives s x t h = so FieldIsWhole x _ h.3.3.3.0 (offset_gives h.1 h.3.0 h.3.1 h.3.2)

  data_gives : Gives FieldIsWhole (data_field source bounds)
  unfolding data_field
  data_gives s x t h = so FieldIsWhole x _ h.3.3.3.0 (offset_gives h.1 h.3.0 h.3.1 h.3.2)

  field_gives : (defined : Bool) (w : Word) → Gives FieldIsWhole (behind_field source bounds defined w)
  unfolding behind_field export_field
  field_gives defined word.Type s x t h = so FieldIsWhole x _ h.3.0 tt
  field_gives defined word.Import s x t h = so FieldIsWhole x _ h.3.0 (import_gives s h.0 h.1 h.2)
  field_gives defined word.Func s x t h = so FieldIsWhole x _ h.3.0 (entry_gives defined kind.Func s h.0 h.1 h.2)
  field_gives defined word.Table s x t h = so FieldIsWhole x _ h.3.0 (entry_gives defined kind.Table s h.0 h.1 h.2)
  field_gives defined word.Memory s x t h = so FieldIsWhole x _ h.3.0 (entry_gives defined kind.Memory s h.0 h.1 h.2)
  field_gives defined word.Global s x t h = so FieldIsWhole x _ h.3.0 (entry_gives defined kind.Global s h.0 h.1 h.2)
  field_gives defined word.Export s x t h = so FieldIsWhole x _ h.3.3.3.3.3.0 tt
  field_gives defined word.Start s x t h = so FieldIsWhole x _ h.3.0 tt
  field_gives defined word.Elem s x t h = element_gives s x t h
  field_gives defined word.Data s x t h = data_gives s x t h
  field_gives defined _ s x t h = absurd h

  abbrev FileIsWhole : File → Type 0
  FileIsWhole f = AreWhole f.fields

  next_gives : (f : File) → FileIsWhole f → Gives FileIsWhole (next_field source bounds f)
  unfolding next_field
  next_gives f a s x t h = so FileIsWhole x _ h.3.3.3.3.0 (more f.fields h.3.3.0 a (field_gives f.defined h.3.0 h.3.1 h.3.3.0 h.3.3.1 h.3.3.2))

  fields_give : {st last : File} {s u : List Token} → Runs {F = TextFault} (fields_go source bounds) (next_field source bounds) st s last u → FileIsWhole st → FileIsWhole last
  fields_give (rests h) a = a
  fields_give (goes {st = st} {s = s} {t = t} next g h r) a = fields_give r (next_gives st a s next t h)

  file_gives : (b : Bool) → Gives AreWhole (file_by source bounds b)
  unfolding file_by all_fields
  file_gives true s x t h = so AreWhole x _ h.3.3.3.3.3.3.0 (fields_give h.3.3.3.2 tt)
  file_gives false s x t h = so AreWhole x _ h.3.3.0 (fields_give h.2 tt)

pub file_is_whole : (source : List ℕ) (tokens : List Token) (fields : List Field) (rest : List Token) → (file source).spelled tokens fields rest → AreWhole fields
unfolding file_within
file_is_whole source tokens fields rest h = file_gives source usual (begins source word.Module tokens) tokens fields rest h
