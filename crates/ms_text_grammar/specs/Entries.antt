-- Functions, tables, memories and globals, imported and defined, and the other fields (WebAssembly 1.0, 6.6.2 to 6.6.12).
use Rattle.std.specs.Prelude.{◌++◌, ◌≤◌, ◌&&◌, not, ℕ, Bool, true, false, List, [], ◌∷◌, Option, Some, None, if◌then◌else◌}
use Rattle.std.specs.Str.{bytes_eq}
use Rattle.std.proofs.Common.{arith}
use Rattle.ms_bytes.specs.Do.{◌>>=◌}
use Rattle.ms_bytes.specs.Parts.{choose, item, pure}
use Rattle.ms_text_lex.specs.declared.token.Token.{Token}
use Rattle.ms_text_lex.specs.Tokens.{text_of}
use Rattle.ms_text_grammar.specs.declared.surface.Body.{Body}
use Rattle.ms_text_grammar.specs.declared.surface.Entry.{Entry}
use Rattle.ms_text_grammar.specs.declared.surface.ExternKind.{ExternKind}
use Rattle.ms_text_grammar.specs.declared.surface.ExternKind.TheVariants as kind
use Rattle.ms_text_grammar.specs.declared.surface.Field.{Field}
use Rattle.ms_text_grammar.specs.declared.surface.Field.TheVariants as field
use Rattle.ms_text_grammar.specs.declared.surface.ImportNames.{ImportNames}
use Rattle.ms_text_grammar.specs.declared.surface.Index.{Index}
use Rattle.ms_text_grammar.specs.declared.surface.Item.{Item}
use Rattle.ms_text_grammar.specs.declared.surface.Item.TheVariants as item_of
use Rattle.ms_text_grammar.specs.declared.word.Word.TheVariants as word
use Rattle.ms_text_grammar.specs.Keywords.{spelling}
use Rattle.ms_text_grammar.specs.Tokens.{begins, is_keyword, is_word, next}
use Rattle.ms_text_grammar.specs.Faults.{Textual, bad, kept}
use Rattle.ms_text_grammar.specs.Parts.{closing, groups, listed, name, no_group, opening, optional_id, string, the}
use Rattle.ms_text_grammar.specs.Numbers.{if_so, index, optional_index}
use Rattle.ms_text_grammar.specs.Types.{global_type, limits, locals, table_type, type_use}
use Rattle.ms_text_grammar.specs.Bounds.{Bounds}
use Rattle.ms_text_grammar.specs.Bodies.{body, folded_body}

abbrev pub no_body : Body
no_body = record { uses = []; ops = [] }

abbrev pub kind_of : List ℕ → Option ExternKind
kind_of text =
    if bytes_eq text (spelling word.Func) then Some kind.Func else
    if bytes_eq text (spelling word.Table) then Some kind.Table else
    if bytes_eq text (spelling word.Memory) then Some kind.Memory else
    if bytes_eq text (spelling word.Global) then Some kind.Global else None

abbrev pub entry : Option Token → List Token → Option ImportNames → Item → Entry
entry id exports import what = record { id = id; exports = exports; «import» = import; item = what }

module _ (source : List ℕ) (bounds : Bounds) where
  -- ---- lists up to a parenthesis

  unfoldable pub next_index : List Index → Textual (List Index)
  next_index xs = do
    x ← index source
    pure (xs ++ x ∷ [])

  pub next_index_least : (xs : List Index) → 1 ≤ (next_index xs).least
  unfolding next_index index
  next_index_least xs = omega arith

  unfoldable pub indices : Textual (List Index)
  indices = listed source next_index next_index_least []

  unfoldable pub next_string : List Token → Textual (List Token)
  next_string ts = do
    t ← string source
    pure (ts ++ t ∷ [])

  pub next_string_least : (ts : List Token) → 1 ≤ (next_string ts).least
  unfolding next_string
  next_string_least ts = omega arith

  unfoldable pub strings : Textual (List Token)
  strings = listed source next_string next_string_least []

  -- ---- imports, which may stand before all definitions (6.6.4)

  unfoldable pub extern_kind : Textual ExternKind
  extern_kind = item (bad source) (λ t. if_so (is_keyword t.kind) (kind_of (text_of source t)))

  -- what is imported
  unfoldable pub imported : ExternKind → Textual Item
  imported kind.Func = do
    sig ← type_use source
    none ← no_group source
    pure (item_of.Func sig [] no_body)
  imported kind.Table = do
    size ← table_type source
    pure (item_of.Table size)
  imported kind.Memory = do
    size ← limits source
    pure (item_of.Memory size)
  imported kind.Global = do
    ty ← global_type source
    pure (item_of.Global ty no_body)

  unfoldable pub import_names : Textual ImportNames
  import_names = do
    from ← name source
    known_as ← name source
    pure (record { «module» = from; name = known_as })

  -- behind `(import`
  unfoldable pub import_field : Textual Entry
  import_field = do
    names ← import_names
    begin ← opening source
    kind ← extern_kind
    id ← optional_id source
    what ← imported kind
    close ← closing source
    pure (entry id [] (Some names) what)

  -- ---- entries: an identifier, inline exports, and an inline import or a definition (6.6.5 to 6.6.8)

  unfoldable pub next_export : List Token → Textual (List Token)
  next_export names = do
    known_as ← name source
    pure (names ++ known_as ∷ [])

  unfoldable pub inline_exports : Textual (List Token)
  inline_exports = groups source word.Export next_export []

  -- the word `import`, which no definition stands before
  abbrev pub import_word : Bool → Token → Option Token
  import_word defined t = kept (not defined && is_word source (spelling word.Import) t) t

  unfoldable pub inline_import_by : Bool → Bool → Textual (Option ImportNames)
  inline_import_by defined true = do
    begin ← opening source
    head ← item (bad source) (import_word defined)
    names ← import_names
    close ← closing source
    pure (Some names)
  inline_import_by defined false = pure None

  unfoldable pub inline_import : Bool → Textual (Option ImportNames)
  inline_import defined = choose (begins source word.Import) (inline_import_by defined)

  unfoldable pub table_by : Bool → Textual Item
  table_by true = do
    head ← the source word.Funcref
    begin ← opening source
    elem ← the source word.Elem
    funcs ← indices
    close ← closing source
    pure (item_of.Elements funcs)
  table_by false = do
    none ← no_group source
    size ← table_type source
    pure (item_of.Table size)

  unfoldable pub memory_by : Bool → Textual Item
  memory_by true = do
    begin ← opening source
    head ← the source word.Data
    bytes ← strings
    close ← closing source
    pure (item_of.Data bytes)
  memory_by false = do
    none ← no_group source
    size ← limits source
    pure (item_of.Memory size)

  -- what is defined
  unfoldable pub definition : ExternKind → Textual Item
  definition kind.Func = do
    sig ← type_use source
    declared ← locals source bounds.locals
    code ← body source bounds.blocks
    pure (item_of.Func sig declared code)
  definition kind.Table = choose (next (is_word source (spelling word.Funcref))) table_by
  definition kind.Memory = choose (begins source word.Data) memory_by
  definition kind.Global = do
    ty ← global_type source
    init ← body source bounds.blocks
    pure (item_of.Global ty init)

  unfoldable pub content : ExternKind → Option ImportNames → Textual Item
  content kind (Some names) = imported kind
  content kind None = definition kind

  -- behind its word, where definitions stand before it or none does
  unfoldable pub entry_field : Bool → ExternKind → Textual Entry
  entry_field defined kind = do
    id ← optional_id source
    exports ← inline_exports
    import ← inline_import defined
    what ← content kind import
    pure (entry id exports import what)

  -- ---- the other fields

  unfoldable pub export_field : Textual Field
  export_field = do
    known_as ← name source
    begin ← opening source
    kind ← extern_kind
    x ← index source
    close ← closing source
    pure (field.Export known_as kind x)

  unfoldable pub offset_by : Bool → Textual Body
  offset_by true = do
    begin ← opening source
    head ← the source word.Offset
    code ← body source bounds.blocks
    close ← closing source
    pure code
  offset_by false = folded_body source bounds.blocks

  -- an offset, or one folded instruction
  unfoldable pub offset : Textual Body
  offset = choose (begins source word.Offset) offset_by

  unfoldable pub element_field : Textual Field
  element_field = do
    table ← optional_index source
    place ← offset
    funcs ← indices
    pure (field.Element table place funcs)

  unfoldable pub data_field : Textual Field
  data_field = do
    memory ← optional_index source
    place ← offset
    bytes ← strings
    pure (field.Data memory place bytes)
