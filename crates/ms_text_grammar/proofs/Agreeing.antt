-- Among tokens that are fields, the scan finds no type use that differs from the type field that it names exactly where all uses of
-- the fields agree.
use Rattle.std.proofs.Common.{◌≡◌, ◌≢◌, ◌&&◌, ℕ, Bool, true, false, not, List, [], ◌∷◌, ◌++◌, All, IfSome, length, Option, Some, None, is_some, refl, sym, ap, ap₂, subst, ◌∙◌, append_assoc, append-nil, if◌then◌else◌}
use Rattle.std.specs.Str.{bytes_eq}
use Rattle.std.proofs.lemmas.List.Elements.{All-nil, All-cons, All-head, All-tail}
use Rattle.std.proofs.lemmas.Slice.Eq.{bytes_eq-Decides}
use lib.Pointwise.{pointwise, pointwise_decides}
use Rattle.ms_bytes.specs.Items.{ItemSpelled}
use Rattle.ms_bytes.specs.Runs.{Runs, goes, rests}
use Rattle.ms_types.specs.declared.types.ValType.{ValType}
use Rattle.ms_types.specs.declared.types.ValType.TheVariants.{I32, I64, Handle}
use Rattle.ms_types.specs.declared.types.FuncType.{FuncType}
use Rattle.ms_text_lex.specs.declared.token.Kind.TheVariants as kinds
use Rattle.ms_text_lex.specs.declared.token.Token.{Token}
use Rattle.ms_text_lex.specs.Tokens.{text_of}
use Rattle.ms_text_grammar.specs.declared.fault.TextFault.{TextFault}
use Rattle.ms_text_grammar.specs.declared.placed.Placed.{Placed}
use Rattle.ms_text_grammar.specs.declared.surface.Body.{Body}
use Rattle.ms_text_grammar.specs.declared.surface.Entry.{Entry}
use Rattle.ms_text_grammar.specs.declared.surface.ExternKind.{ExternKind}
use Rattle.ms_text_grammar.specs.declared.surface.ExternKind.TheVariants as kind
use Rattle.ms_text_grammar.specs.declared.surface.Field.{Field}
use Rattle.ms_text_grammar.specs.declared.surface.Field.TheVariants as field
use Rattle.ms_text_grammar.specs.declared.surface.ImportNames.{ImportNames}
use Rattle.ms_text_grammar.specs.declared.surface.Index.{Index}
use Rattle.ms_text_grammar.specs.declared.surface.Item.{Item}
use Rattle.ms_text_grammar.specs.declared.surface.TypeField.{TypeField}
use Rattle.ms_text_grammar.specs.declared.surface.TypeUse.{TypeUse}
use Rattle.ms_text_grammar.specs.declared.word.Word.{Word}
use Rattle.ms_text_grammar.specs.declared.word.Word.TheVariants as word
use Rattle.ms_text_grammar.specs.Keywords.{spelling}
use Rattle.ms_text_grammar.specs.Tokens.{begins, closes, is_close, is_keyword, is_open, is_word, next}
use Rattle.ms_text_grammar.specs.Faults.{kept}
use Rattle.ms_text_grammar.specs.Parts.{closing, listed, opening}
use Rattle.ms_text_grammar.specs.Numbers.{if_so, index}
use Rattle.ms_text_grammar.specs.Types.{type_field, type_ref, type_ref_by, type_use}
use Rattle.ms_text_grammar.specs.Bounds.{Bounds}
use Rattle.ms_text_grammar.specs.Entries.{content, data_field, definition, element_field, entry_field, export_field, extern_kind, import_field, import_names, import_word, imported, indices, inline_exports, inline_import, inline_import_by, kind_of, memory_by, next_export, next_index, next_string, offset, offset_by, strings, table_by}
use Rattle.ms_text_grammar.specs.Fields.{File, all_fields, among, behind_field, field_word, field_words, fields_go, file_by, file_within, may_stand, next_field, standing, with_field}
use Rattle.ms_text_grammar.specs.Shapes.{field_type, is_written, same_shape, same_type, use_type}
use Rattle.ms_text_grammar.specs.FieldKinds.{types_in}
use Rattle.ms_text_grammar.specs.TypeUses.{Agrees, AllAgree, all_uses, field_at, index_in, item_uses, uses_of}
use Rattle.ms_text_grammar.specs.Scans.{differing, field_behind, fields_in, if_closed, is_other, mismatch, ok_value, tail_of, uses_in}
use Rattle.ms_text_grammar.proofs.Folds.{both_pass, kept_passes, so_passes}
use Rattle.ms_text_grammar.proofs.Quiet.{AllQuiet, Has, Quiet, ◌▹◌, closing_quiet, global_type_quiet, groups_quiet, index_quiet, item_quiet, keyword_quiet, left_word_quiet, limits_quiet, locals_quiet, name_quiet, no_both, no_group_quiet, open_quiet, optional_id_quiet, optional_index_quiet, params_quiet, results_quiet, runs_quiet, same, sigs, stays, string_quiet, table_type_quiet, type_next, until}
use Rattle.ms_text_grammar.proofs.Scanned.{body_has, folded_body_has, index_or_field, naming, naming-append, refused, use_has}

-- ---- words of fields

among_is : (ws : List Word) (text : List ℕ) (w : Word) → among ws text ≡ Some w → bytes_eq text (spelling w) ≡ true
among_is [] text w e = absurd cc
among_is (v ∷ ws) text w e = go (bytes_eq text (spelling v)) refl (among_is ws text w) e where
  go : (b : Bool) → bytes_eq text (spelling v) ≡ b → (among ws text ≡ Some w → bytes_eq text (spelling w) ≡ true) → (if b then Some v else among ws text) ≡ Some w → bytes_eq text (spelling w) ≡ true
  go true h on e = let same_word : v ≡ w = cc in subst (λ (x : Word). bytes_eq text (spelling x) ≡ true) same_word h
  go false h on e = on e

stands_is : (f : File) (o : Option Word) (w : Word) → standing f o ≡ Some w → o ≡ Some w
stands_is f None w e = absurd cc
stands_is f (Some v) w e = go (may_stand f v) e where
  go : (b : Bool) → kept b v ≡ Some w → Some v ≡ Some w
  go true e = e
  go false e = absurd cc

type_stands : (f : File) → standing f (among field_words (spelling word.Type)) ≡ Some word.Type
unfolding field_words
type_stands f = refl

-- the types that a field and those behind it declare
types_more : (f : Field) (fs : List Field) → types_in (f ∷ fs) ≡ types_in (f ∷ []) ++ types_in fs
types_more (field.Type t) fs = refl
types_more (field.Entry e) fs = refl
types_more (field.Export n k x) fs = refl
types_more (field.Start x) fs = refl
types_more (field.Element t o fns) fs = refl
types_more (field.Data m o ts) fs = refl

types-append : (fs gs : List Field) → types_in (fs ++ gs) ≡ types_in fs ++ types_in gs
types-append [] gs = refl
types-append (f ∷ fs) gs =
    types_more f (fs ++ gs) ∙ ap (λ (l : List TypeField). types_in (f ∷ []) ++ l) (types-append fs gs) ∙ sym (append_assoc (types_in (f ∷ [])) (types_in fs) (types_in gs))
    ∙ ap (λ (l : List TypeField). l ++ types_in gs) (sym (types_more f fs))

uses-append : (fs gs : List Field) → all_uses (fs ++ gs) ≡ all_uses fs ++ all_uses gs
uses-append [] gs = refl
uses-append (f ∷ fs) gs = ap (λ (l : List TypeUse). uses_of f ++ l) (uses-append fs gs) ∙ sym (append_assoc (uses_of f) (all_uses fs) (all_uses gs))

module _ (source : List ℕ) (bounds : Bounds) where
  -- ---- the parts of entries

  abbrev ItemHas : List Token → Item → List Token → Type 0
  ItemHas s x t = Has source s t [] (naming (item_uses x))

  item_is : (s t : List Token) (x y : Item) → x ≡ y → ItemHas s y t → ItemHas s x t
  item_is s t x y e h = subst (λ (z : Item). ItemHas s z t) (sym e) h

  next_index_quiet : (xs : List Index) → AllQuiet source (next_index source bounds xs)
  unfolding next_index
  next_index_quiet xs s x t h = index_quiet source s h.0 h.1 h.2 ▹ same h.3.1

  indices_quiet : AllQuiet source (indices source bounds)
  unfolding indices listed
  indices_quiet s x t h = runs_quiet source _ (next_index source bounds) next_index_quiet h

  next_string_quiet : (ts : List Token) → AllQuiet source (next_string source bounds ts)
  unfolding next_string
  next_string_quiet ts s x t h = string_quiet source s h.0 h.1 h.2 ▹ same h.3.1

  strings_quiet : AllQuiet source (strings source bounds)
  unfolding strings listed
  strings_quiet s x t h = runs_quiet source _ (next_string source bounds) next_string_quiet h

  extern_kind_quiet : AllQuiet source (extern_kind source bounds)
  unfolding extern_kind
  extern_kind_quiet s x t h = item_quiet source (λ e. if_so (is_keyword e.kind) (kind_of (text_of source e))) (λ e k. rw k refl) s x t h

  imported_has : (k : ExternKind) (s : List Token) (x : Item) (t : List Token) → (imported source bounds k).spelled s x t → ItemHas s x t
  unfolding imported
  imported_has kind.Func s x t h = item_is s t x _ h.3.3.0 (until (use_has source s h.0 h.1 h.2) (no_group_quiet source h.1 h.3.0 h.3.1 h.3.2 ▹ same h.3.3.1))
  imported_has kind.Table s x t h = item_is s t x _ h.3.0 (table_type_quiet source s h.0 h.1 h.2 ▹ same h.3.1)
  imported_has kind.Memory s x t h = item_is s t x _ h.3.0 (limits_quiet source s h.0 h.1 h.2 ▹ same h.3.1)
  imported_has kind.Global s x t h = item_is s t x _ h.3.0 (global_type_quiet source s h.0 h.1 h.2 ▹ same h.3.1)

  import_names_quiet : AllQuiet source (import_names source bounds)
  unfolding import_names
  import_names_quiet s x t h = name_quiet source s h.0 h.1 h.2 ▹ name_quiet source h.1 h.3.0 h.3.1 h.3.2 ▹ same h.3.3.1

  next_export_quiet : (names : List Token) → AllQuiet source (next_export source bounds names)
  unfolding next_export
  next_export_quiet names s x t h = name_quiet source s h.0 h.1 h.2 ▹ same h.3.1

  exports_quiet : AllQuiet source (inline_exports source bounds)
  unfolding inline_exports
  exports_quiet s x t h = groups_quiet source word.Export (next_export source bounds) refl next_export_quiet [] s x t h

  -- `import` is another word than `type`
  import_other : (defined : Bool) (s : List Token) (x : Token) (t : List Token) → ItemSpelled (import_word source bounds defined) s x t → type_next source s ≡ false
  import_other defined s x t h =
      let p = both_pass (not defined) (is_word source (spelling word.Import) h.0) (kept_passes (not defined && is_word source (spelling word.Import) h.0) h.0 x h.2) in
      let q = both_pass (is_keyword h.0.kind) (bytes_eq (text_of source h.0) (spelling word.Import)) p.1 in
      let is : text_of source h.0 ≡ spelling word.Import = (bytes_eq-Decides (text_of source h.0) (spelling word.Import)).0 q.1 in
      subst (λ (l : List Token). type_next source l ≡ false) (sym h.1)
      (no_both source (is_keyword h.0.kind) (bytes_eq (text_of source h.0) (spelling word.Type)) (ap (λ (y : List ℕ). bytes_eq y (spelling word.Type)) is))

  import_word_open : (defined : Bool) (e : Token) → e.kind ≡ kinds.Open → import_word source bounds defined e ≡ None
  import_word_open true e k = refl
  import_word_open false e k = rw k refl

  inline_by_quiet : (defined by : Bool) → AllQuiet source (inline_import_by source bounds defined by)
  unfolding inline_import_by
  inline_by_quiet defined true s x t h =
      let k = h.3.3 in
      open_quiet source s h.1 h.0 h.2 (import_other defined h.1 h.3.0 h.3.1 h.3.2) ▹ item_quiet source (import_word source bounds defined) (import_word_open defined) h.1 h.3.0 h.3.1 h.3.2
      ▹ import_names_quiet h.3.1 k.0 k.1 k.2 ▹ closing_quiet source k.1 k.3.0 k.3.1 k.3.2 ▹ same k.3.3.1
  inline_by_quiet defined false s x t h = same h.1

  table_has : (b : Bool) (s : List Token) (x : Item) (t : List Token) → (table_by source bounds b).spelled s x t → ItemHas s x t
  unfolding table_by
  table_has true s x t h =
      let w = h.3 in
      let k = w.3.3 in
      item_is s t x _ k.3.3.0 (keyword_quiet source (spelling word.Funcref) s h.0 h.1 h.2 ▹ left_word_quiet source (spelling word.Elem) refl h.1 w.1 w.3.1 w.0 w.3.0 w.2 w.3.2
      ▹ indices_quiet w.3.1 k.0 k.1 k.2 ▹ closing_quiet source k.1 k.3.0 k.3.1 k.3.2 ▹ same k.3.3.1)
  table_has false s x t h = item_is s t x _ h.3.3.0 (no_group_quiet source s h.0 h.1 h.2 ▹ table_type_quiet source h.1 h.3.0 h.3.1 h.3.2 ▹ same h.3.3.1)

  memory_has : (b : Bool) (s : List Token) (x : Item) (t : List Token) → (memory_by source bounds b).spelled s x t → ItemHas s x t
  unfolding memory_by
  memory_has true s x t h =
      let k = h.3.3 in
      item_is s t x _ k.3.3.0 (left_word_quiet source (spelling word.Data) refl s h.1 h.3.1 h.0 h.3.0 h.2 h.3.2 ▹ strings_quiet h.3.1 k.0 k.1 k.2 ▹ closing_quiet source k.1 k.3.0 k.3.1 k.3.2 ▹ same k.3.3.1)
  memory_has false s x t h = item_is s t x _ h.3.3.0 (no_group_quiet source s h.0 h.1 h.2 ▹ limits_quiet source h.1 h.3.0 h.3.1 h.3.2 ▹ same h.3.3.1)

  definition_has : (k : ExternKind) (s : List Token) (x : Item) (t : List Token) → (definition source bounds k).spelled s x t → ItemHas s x t
  unfolding definition
  definition_has kind.Func s x t h =
      let l = h.3 in
      let c = l.3 in
      let parts : Has source s t [] (naming (h.0 ∷ []) ++ naming c.0.uses) =
      use_has source s h.0 h.1 h.2 ▹ locals_quiet source bounds.locals h.1 l.0 l.1 l.2 ▹ until (body_has source bounds.blocks l.1 c.0 c.1 c.2) (same c.3.1) in
      item_is s t x _ c.3.0 (subst (λ (us : List TypeUse). Has source s t [] us) (sym (naming-append (h.0 ∷ []) c.0.uses)) parts)
  definition_has kind.Table s x t h = table_has (next (is_word source (spelling word.Funcref)) s) s x t h
  definition_has kind.Memory s x t h = memory_has (begins source word.Data s) s x t h
  definition_has kind.Global s x t h = item_is s t x _ h.3.3.0 (global_type_quiet source s h.0 h.1 h.2 ▹ until (body_has source bounds.blocks h.1 h.3.0 h.3.1 h.3.2) (same h.3.3.1))

  content_has : (k : ExternKind) (names : Option ImportNames) (s : List Token) (x : Item) (t : List Token) → (content source bounds k names).spelled s x t → ItemHas s x t
  unfolding content
  content_has k (Some names) s x t h = imported_has k s x t h
  content_has k None s x t h = definition_has k s x t h

  entry_is : (s t : List Token) (x y : Entry) → x ≡ y → ItemHas s y.item t → ItemHas s x.item t
  entry_is s t x y e h = subst (λ (z : Entry). ItemHas s z.item t) (sym e) h

  entry_has : (defined : Bool) (k : ExternKind) (s : List Token) (x : Entry) (t : List Token) → (entry_field source bounds defined k).spelled s x t → ItemHas s x.item t
  unfolding entry_field inline_import
  entry_has defined k s x t h =
      let e = h.3 in
      let i = e.3 in
      let c = i.3 in
      entry_is s t x _ c.3.0 (optional_id_quiet source s h.0 h.1 h.2 ▹ exports_quiet h.1 e.0 e.1 e.2 ▹ inline_by_quiet defined (begins source word.Import e.1) e.1 i.0 i.1 i.2
      ▹ until (content_has k i.0 i.1 c.0 c.1 c.2) (same c.3.1))

  -- `func`, `table`, `memory` and `global` are other words than `type`
  kind_other : (s : List Token) (k : ExternKind) (t : List Token) → (extern_kind source bounds).spelled s k t → type_next source s ≡ false
  unfolding extern_kind
  kind_other s k t h =
      subst (λ (l : List Token). type_next source l ≡ false) (sym h.1) (go (bytes_eq (text_of source h.0) (spelling word.Type)) refl) where
        go : (b : Bool) → bytes_eq (text_of source h.0) (spelling word.Type) ≡ b → (is_keyword h.0.kind && bytes_eq (text_of source h.0) (spelling word.Type)) ≡ false
        go false e = no_both source (is_keyword h.0.kind) (bytes_eq (text_of source h.0) (spelling word.Type)) e
        go true e =
            let is : text_of source h.0 ≡ spelling word.Type = (bytes_eq-Decides (text_of source h.0) (spelling word.Type)).0 e in
            let p : kind_of (text_of source h.0) ≡ Some k = (so_passes (is_keyword h.0.kind) (kind_of (text_of source h.0)) k h.2).1 in
            let none : None ≡ Some k = sym (ap kind_of is) ∙ p in
            absurd cc

  import_has : (s : List Token) (x : Entry) (t : List Token) → (import_field source bounds).spelled s x t → ItemHas s x.item t
  unfolding import_field
  import_has s x t h =
      let o = h.3 in
      let k = o.3 in
      let i = k.3 in
      let m = i.3 in
      let c = m.3 in
      entry_is s t x _ c.3.0 (import_names_quiet s h.0 h.1 h.2 ▹ open_quiet source h.1 o.1 o.0 o.2 (kind_other o.1 k.0 k.1 k.2) ▹ extern_kind_quiet o.1 k.0 k.1 k.2 ▹ optional_id_quiet source k.1 i.0 i.1 i.2
      ▹ until (imported_has k.0 i.1 m.0 m.1 m.2) (closing_quiet source m.1 c.0 c.1 c.2 ▹ same c.3.1))

  -- ---- offsets

  body_is : (s t : List Token) (x y : Body) → x ≡ y → Has source s t [] (naming y.uses) → Has source s t [] (naming x.uses)
  body_is s t x y e h = subst (λ (z : Body). Has source s t [] (naming z.uses)) (sym e) h

  offset_by_has : (b : Bool) (s : List Token) (x : Body) (t : List Token) → (offset_by source bounds b).spelled s x t → Has source s t [] (naming x.uses)
  unfolding offset_by
  offset_by_has true s x t h =
      let k = h.3.3 in
      body_is s t x _ k.3.3.0 (left_word_quiet source (spelling word.Offset) refl s h.1 h.3.1 h.0 h.3.0 h.2 h.3.2 ▹ until (body_has source bounds.blocks h.3.1 k.0 k.1 k.2) (closing_quiet source k.1 k.3.0 k.3.1 k.3.2 ▹ same k.3.3.1))
  offset_by_has false s x t h = folded_body_has source bounds.blocks s x t h

  -- ---- fields

  abbrev FieldHas : List Token → Field → List Token → Type 0
  FieldHas s f t = Has source s t (types_in (f ∷ [])) (naming (uses_of f))

  field_is : (s t : List Token) (x y : Field) → x ≡ y → FieldHas s y t → FieldHas s x t
  field_is s t x y e h = subst (λ (z : Field). FieldHas s z t) (sym e) h

  element_has : (s : List Token) (x : Field) (t : List Token) → (element_field source bounds).spelled s x t → FieldHas s x t
  unfolding element_field offset
  element_has s x t h =
      let k = h.3.3 in
      field_is s t x _ k.3.0 (optional_index_quiet source s h.0 h.1 h.2 ▹ until (offset_by_has (begins source word.Offset h.1) h.1 h.3.0 h.3.1 h.3.2) (indices_quiet h.3.1 k.0 k.1 k.2 ▹ same k.3.1))

  data_has : (s : List Token) (x : Field) (t : List Token) → (data_field source bounds).spelled s x t → FieldHas s x t
  unfolding data_field offset
  data_has s x t h =
      let k = h.3.3 in
      field_is s t x _ k.3.0 (optional_index_quiet source s h.0 h.1 h.2 ▹ until (offset_by_has (begins source word.Offset h.1) h.1 h.3.0 h.3.1 h.3.2) (strings_quiet h.3.1 k.0 k.1 k.2 ▹ same k.3.1))

  export_has : (s : List Token) (x : Field) (t : List Token) → (export_field source bounds).spelled s x t → FieldHas s x t
  unfolding export_field
  export_has s x t h =
      let o = h.3 in
      let k = o.3 in
      let i = k.3 in
      let c = i.3 in
      field_is s t x _ c.3.0 (name_quiet source s h.0 h.1 h.2 ▹ open_quiet source h.1 o.1 o.0 o.2 (kind_other o.1 k.0 k.1 k.2) ▹ extern_kind_quiet o.1 k.0 k.1 k.2 ▹ index_quiet source k.1 i.0 i.1 i.2
      ▹ closing_quiet source i.1 c.0 c.1 c.2 ▹ same c.3.1)

  of_entry : (s m t : List Token) (x : Field) (e : Entry) → x ≡ field.Entry e → m ≡ t → ItemHas s e.item m → FieldHas s x t
  of_entry s m t x e q p h = field_is s t x (field.Entry e) q (until h (same p))

  -- a field that is no type field, behind its word
  behind_has : (defined : Bool) (w : Word) → w ≢ word.Type → (s : List Token) (x : Field) (t : List Token) → (behind_field source bounds defined w).spelled s x t → FieldHas s x t
  unfolding behind_field
  behind_has defined word.Type n s x t h = absurd (n refl)
  behind_has defined word.Import n s x t h = of_entry s h.1 t x h.0 h.3.0 h.3.1 (import_has s h.0 h.1 h.2)
  behind_has defined word.Func n s x t h = of_entry s h.1 t x h.0 h.3.0 h.3.1 (entry_has defined kind.Func s h.0 h.1 h.2)
  behind_has defined word.Table n s x t h = of_entry s h.1 t x h.0 h.3.0 h.3.1 (entry_has defined kind.Table s h.0 h.1 h.2)
  behind_has defined word.Memory n s x t h = of_entry s h.1 t x h.0 h.3.0 h.3.1 (entry_has defined kind.Memory s h.0 h.1 h.2)
  behind_has defined word.Global n s x t h = of_entry s h.1 t x h.0 h.3.0 h.3.1 (entry_has defined kind.Global s h.0 h.1 h.2)
  behind_has defined word.Export n s x t h = export_has s x t h
  behind_has defined word.Start n s x t h = field_is s t x _ h.3.0 (index_quiet source s h.0 h.1 h.2 ▹ same h.3.1)
  behind_has defined word.Elem n s x t h = element_has s x t h
  behind_has defined word.Data n s x t h = data_has s x t h
  behind_has defined _ n s x t h = absurd h

  -- another word than `type`
  field_other : (f : File) (s : List Token) (w : Word) (t : List Token) → ItemSpelled (field_word source bounds f) s w t → w ≢ word.Type → type_next source s ≡ false
  field_other f s w t h n =
      subst (λ (l : List Token). type_next source l ≡ false) (sym h.1) (go (bytes_eq (text_of source h.0) (spelling word.Type)) refl) where
        go : (b : Bool) → bytes_eq (text_of source h.0) (spelling word.Type) ≡ b → (is_keyword h.0.kind && bytes_eq (text_of source h.0) (spelling word.Type)) ≡ false
        go false e = no_both source (is_keyword h.0.kind) (bytes_eq (text_of source h.0) (spelling word.Type)) e
        go true e =
            let is : text_of source h.0 ≡ spelling word.Type = (bytes_eq-Decides (text_of source h.0) (spelling word.Type)).0 e in
            let p = so_passes (is_keyword h.0.kind) (among field_words (text_of source h.0)) w (stands_is f (if_so (is_keyword h.0.kind) (among field_words (text_of source h.0))) w h.2) in
            let q : standing f (among field_words (spelling word.Type)) ≡ standing f (Some w) = ap (λ (y : List ℕ). standing f (among field_words y)) (sym is) ∙ ap (standing f) p.1 in
            let r : Some w ≡ Some word.Type = stands_is f (Some w) word.Type (sym q ∙ type_stands f) in
            absurd (n cc)

  field_word_open : (f : File) (e : Token) → e.kind ≡ kinds.Open → field_word source bounds f e ≡ None
  field_word_open f e k = rw k refl

  -- ---- type fields

  type_first : (o : Token) (m : List Token) (f : TypeField) → begins source word.Type (o ∷ m) ≡ true → field_behind source (tail_of m) ≡ Some f
      → ok_value ((type_use source).read (length source) (o ∷ m)) ≡ None → Has source (o ∷ m) m (f ∷ []) []
  type_first o m f b e n = record { fields = rw (b, e) refl; uses = rw (b, n) refl }

  field_inside : (s : List Token) (f : TypeField) (t : List Token) → (type_field source).spelled s f t → Quiet source s t
  unfolding type_field
  field_inside s f t h =
      let o = h.3 in
      let w = o.3 in
      let p = w.3 in
      let r = p.3 in
      let g = r.3 in
      let c = g.3 in
      optional_id_quiet source s h.0 h.1 h.2 ▹ left_word_quiet source (spelling word.Func) refl h.1 o.1 w.1 o.0 w.0 o.2 w.2 ▹ params_quiet source w.1 p.0 p.1 p.2 ▹ results_quiet source p.1 r.0 r.1 r.2
      ▹ no_group_quiet source r.1 g.0 g.1 g.2 ▹ closing_quiet source g.1 c.0 c.1 c.2 ▹ same c.3.1

  -- where a type field stands behind it, `(type` begins no use
  ref_refused : (b : Bool) (s m : List Token) (f : TypeField) (t : List Token) → b ≡ true → tail_of (tail_of s) ≡ m → (type_field source).spelled m f t → (sig : Option Index) (u : List Token) → (type_ref_by source b).spelled s sig u → ⊥
  unfolding type_ref_by type_field
  ref_refused true s m f t q e k sig u h =
      let w = h.3 in
      let i = w.3 in
      let c = i.3 in
      let after : w.1 ≡ m = sym (ap tail_of w.2.1) ∙ sym (ap (λ (l : List Token). tail_of (tail_of l)) h.2.1) ∙ e in
      index_or_field source m i.0 i.1 c.1 c.0 (subst (λ (l : List Token). (index source).spelled l i.0 i.1) after i.2) c.2 k.0 k.1 k.3.1 k.3.0 k.2 k.3.2
  ref_refused false s m f t q e k sig u h = absurd cc

  use_refused : (s m : List Token) (f : TypeField) (t : List Token) → begins source word.Type s ≡ true → tail_of (tail_of s) ≡ m → (type_field source).spelled m f t → (u : TypeUse) (r : List Token) → (type_use source).spelled s u r → ⊥
  unfolding type_use type_ref
  use_refused s m f t b e k u r h = ref_refused (begins source word.Type s) s m f t b e k h.0 h.1 h.2

  closes_there : (s t : List Token) (x : Token) → (closing source).spelled s x t → closes s ≡ true
  closes_there s t x h = subst (λ (l : List Token). closes l ≡ true) (sym h.1) (kept_passes (is_close h.0.kind) h.0 x h.2)

  closed_field : (r : Option (TypeField × List Token)) (f : TypeField) (t : List Token) → r ≡ Some (f, t) → closes t ≡ true → if_closed r ≡ Some f
  closed_field r f t e c = ap if_closed e ∙ ap (λ (b : Bool). if b then Some f else None) c

  type_has : (st : File) (s m n t : List Token) (o : Token) (f : TypeField) (c : Token) (u : List Token) → (opening source).spelled s o m → ItemSpelled (field_word source bounds st) m word.Type n
      → (type_field source).spelled n f t → (closing source).spelled t c u → Has source s u (f ∷ []) []
  type_has st s m n t o f c u ho hw hf hc =
      let w = so_passes (is_keyword hw.0.kind) (among field_words (text_of source hw.0)) word.Type (stands_is st (if_so (is_keyword hw.0.kind) (among field_words (text_of source hw.0))) word.Type hw.2) in
      let is : is_word source (spelling word.Type) hw.0 ≡ true = rw w.0 (among_is field_words (text_of source hw.0) word.Type w.1) in
      let there : type_next source m ≡ true = subst (λ (l : List Token). type_next source l ≡ true) (sym hw.1) is in
      let b : begins source word.Type (ho.0 ∷ m) ≡ true = rw (kept_passes (is_open ho.0.kind) ho.0 o ho.2) there in
      let behind : tail_of m ≡ n = ap tail_of hw.1 in
      let read : ok_value ((type_field source).read (length source) n) ≡ Some (f, t) = ap ok_value ((type_field source).again (length source) n f t hf) in
      let found : field_behind source (tail_of m) ≡ Some f = ap (field_behind source) behind ∙ closed_field (ok_value ((type_field source).read (length source) n)) f t read (closes_there t u c hc) in
      let none : ok_value ((type_use source).read (length source) (ho.0 ∷ m)) ≡ None =
      refused ((type_use source).read (length source) (ho.0 ∷ m)) (λ x r e. use_refused (ho.0 ∷ m) n f t b behind hf x r ((type_use source).takes (length source) (ho.0 ∷ m) x r e)) in
      let first : Has source s m (f ∷ []) [] = subst (λ (l : List Token). Has source l m (f ∷ []) []) (sym ho.1) (type_first ho.0 m f b found none) in
      until first (item_quiet source (field_word source bounds st) (field_word_open st) m word.Type n hw ▹ field_inside n f t hf ▹ closing_quiet source t c u hc)

  -- ---- all fields

  abbrev Adds : File → List Token → File → List Token → Type 0
  Adds st s next t = (fs : List Field) × (next.fields ≡ st.fields ++ fs) × Has source s t (types_in fs) (naming (all_uses fs))

  one_field : (st next : File) (s t : List Token) (f : Field) → next ≡ with_field f st → FieldHas s f t → Adds st s next t
  one_field st next s t f e h = (
    f ∷ [],
    ap (λ (x : File). x.fields) e,
    subst (λ (us : List TypeUse). Has source s t (types_in (f ∷ [])) (naming us)) (sym (append-nil (uses_of f))) h,
  )

  other_has : (st : File) (s m n : List Token) (o : Token) (w : Word) (f : Field) (c : Token) (k t : List Token) → w ≢ word.Type → (opening source).spelled s o m → ItemSpelled (field_word source bounds st) m w n
      → (behind_field source bounds st.defined w).spelled n f k → (closing source).spelled k c t → FieldHas s f t
  other_has st s m n o w f c k t q ho hw hf hc =
      open_quiet source s m o ho (field_other st m w n hw q) ▹ item_quiet source (field_word source bounds st) (field_word_open st) m w n hw ▹ until (behind_has st.defined w q n f k hf) (closing_quiet source k c t hc)

  next_has : (st next : File) (s m n : List Token) (o : Token) (w : Word) (f : Field) (c : Token) (k t : List Token) → next ≡ with_field f st → (opening source).spelled s o m → ItemSpelled (field_word source bounds st) m w n
      → (behind_field source bounds st.defined w).spelled n f k → (closing source).spelled k c t → Adds st s next t
  unfolding behind_field
  next_has st next s m n o word.Type f c k t e ho hw hf hc =
      one_field st next s t f e
      (field_is s t f _ hf.3.0 (type_has st s m n k o hf.0 c t ho hw (subst (λ (l : List Token). (type_field source).spelled n hf.0 l) hf.3.1 hf.2) hc))
  next_has st next s m n o w f c k t e ho hw hf hc = one_field st next s t f e (other_has st s m n o w f c k t (λ x. absurd cc) ho hw hf hc)

  added : (st next last : File) {s t u : List Token} → Adds st s next t → Adds next t last u → Adds st s last u
  added st next last {s = s} {u = u} a b = (
    a.0 ++ b.0,
    b.1 ∙ ap (λ (l : List Field). l ++ b.0) a.1 ∙ append_assoc st.fields a.0 b.0,
    subst (λ (l : List TypeField). Has source s u l (naming (all_uses (a.0 ++ b.0)))) (sym (types-append a.0 b.0))
        (subst (λ (l : List TypeUse). Has source s u (types_in a.0 ++ types_in b.0) l) (sym (ap naming (uses-append a.0 b.0) ∙ naming-append (all_uses a.0) (all_uses b.0))) (a.2 ▹ b.2)),
  )

  fields_has : {st last : File} {s u : List Token} → Runs {F = TextFault} (fields_go source bounds) (next_field source bounds) st s last u → Adds st s last u
  unfolding next_field
  fields_has {st = st} (rests e) = ([], sym (append-nil st.fields), stays)
  fields_has {st = st} {last = last} {s = s} (goes {t = t} next g h r) =
      let w = h.3 in
      let f = w.3 in
      let c = f.3 in
      added st next last (next_has st next s h.1 w.1 h.0 w.0 f.0 c.0 f.1 t c.3.0 h.2 w.2 f.2 (subst (λ (l : List Token). (closing source).spelled f.1 c.0 l) c.3.1 c.2)) (fields_has r)

  abbrev FileHas : List Token → List Field → List Token → Type 0
  FileHas s fs t = Has source s t (types_in fs) (naming (all_uses fs))

  file_by_has : (b : Bool) (s : List Token) (x : List Field) (t : List Token) → (file_by source bounds b).spelled s x t → FileHas s x t
  unfolding file_by all_fields
  file_by_has true s x t h =
      let w = h.3 in
      let i = w.3 in
      let l = i.3 in
      let c = l.3 in
      let e = c.3 in
      let k = fields_has l.2 in
      let is : x ≡ k.0 = e.3.0 ∙ k.1 in
      subst (λ (fs : List Field). FileHas s fs t) (sym is)
      (left_word_quiet source (spelling word.Module) refl s h.1 w.1 h.0 w.0 h.2 w.2 ▹ optional_id_quiet source w.1 i.0 i.1 i.2
      ▹ until k.2 (closing_quiet source l.1 c.0 c.1 c.2 ▹ same (e.2.0 ∙ sym e.2.1) ▹ same e.3.1))
  file_by_has false s x t h =
      let e = h.3 in
      let k = fields_has h.2 in
      let is : x ≡ k.0 = e.3.0 ∙ k.1 in
      subst (λ (fs : List Field). FileHas s fs t) (sym is) (until k.2 (same (e.2.0 ∙ sym e.2.1) ▹ same e.3.1))

  file_has : (s : List Token) (x : List Field) (t : List Token) → (file_within source bounds).spelled s x t → FileHas s x t
  unfolding file_within
  file_has s x t h = file_by_has (begins source word.Module s) s x t h

-- ---- two types are the same

same_is : (x y : ValType) → same_type x y ≡ true → x ≡ y
same_is I32 I32 e = refl
same_is I64 I64 e = refl
same_is Handle Handle e = refl
same_is _ _ e = absurd cc

same_self : (x : ValType) → same_type x x ≡ true
same_self I32 = refl
same_self I64 = refl
same_self Handle = refl

types_decide : (xs ys : List ValType) → (pointwise same_type xs ys ≡ true → xs ≡ ys) × (xs ≡ ys → pointwise same_type xs ys ≡ true)
types_decide = pointwise_decides (λ x y. (same_is x y, λ e. subst (λ (z : ValType). same_type x z ≡ true) e (same_self x)))

abbrev func_type : List ValType → List ValType → FuncType
func_type ps rs = record { params = ps; results = rs }

shape_is : (a b : FuncType) → same_shape a b ≡ true → a ≡ b
shape_is a b e =
    let p = both_pass (pointwise same_type a.params b.params) (pointwise same_type a.results b.results) e in
    ap₂ func_type ((types_decide a.params b.params).0 p.0) ((types_decide a.results b.results).0 p.1)

shape_same : (a b : FuncType) → a ≡ b → same_shape a b ≡ true
shape_same a b e = subst (λ (z : FuncType). same_shape a z ≡ true) e (rw ((types_decide a.params a.params).1 refl, (types_decide a.results a.results).1 refl) refl)

same_then : (w s : Bool) → w ≡ true → (w && not s) ≡ false → s ≡ true
same_then true true w e = refl
same_then true false w e = absurd cc
same_then false s w e = absurd cc

no_other_then : (w s : Bool) → (w ≡ true → s ≡ true) → (w && not s) ≡ false
no_other_then true s h = rw (h refl) refl
no_other_then false s h = refl

abbrev Fits : Option TypeField → TypeUse → Type 0
Fits o u = IfSome o (λ f. is_written u ≡ true → use_type u ≡ field_type f)

fits_use : (o : Option TypeField) (u : TypeUse) → is_other o u ≡ false → Fits o u
fits_use None u e = tt
fits_use (Some f) u e = λ w. sym (shape_is (field_type f) (use_type u) (same_then (is_written u) (same_shape (field_type f) (use_type u)) w e))

not_other : (o : Option TypeField) (u : TypeUse) → Fits o u → is_other o u ≡ false
not_other None u h = refl
not_other (Some f) u h = no_other_then (is_written u) (same_shape (field_type f) (use_type u)) (λ w. shape_same (field_type f) (use_type u) (sym (h w)))

-- ---- the law

module _ (source : List ℕ) (fs : List TypeField) where
  abbrev IsOther : TypeUse → Bool
  IsOther u = is_other (field_at fs (index_in source fs u.sig)) u

  abbrev NoOther : List TypeUse → Type 0
  NoOther [] = Unit {0}
  NoOther (u ∷ us) = (IsOther u ≡ false) × NoOther us

  none_differs : (us : List Placed) → differing source fs us ≡ None → NoOther (sigs us)
  none_differs [] e = tt
  none_differs (u ∷ us) e = go (IsOther u.sig) refl (none_differs us) e where
    go : (b : Bool) → IsOther u.sig ≡ b → (differing source fs us ≡ None → NoOther (sigs us)) → (if b then Some u.at else differing source fs us) ≡ None → (IsOther u.sig ≡ false) × NoOther (sigs us)
    go true h on e = absurd cc
    go false h on e = (h, on e)

  differs_none : (us : List Placed) → NoOther (sigs us) → differing source fs us ≡ None
  differs_none [] h = refl
  differs_none (u ∷ us) h = rw h.0 (differs_none us h.1)

  -- a use that names no type is no other
  apart_of : (u : TypeUse) (us : List TypeUse) (o : Option Index) → u.sig ≡ o → NoOther (if is_some o then u ∷ naming us else naming us) → (IsOther u ≡ false) × NoOther (naming us)
  apart_of u us None e h = (ap (λ (x : Option Index). is_other (field_at fs (index_in source fs x)) u) e, h)
  apart_of u us (Some x) e h = h

  together : (u : TypeUse) (us : List TypeUse) (o : Option Index) → IsOther u ≡ false → NoOther (naming us) → NoOther (if is_some o then u ∷ naming us else naming us)
  together u us None e h = h
  together u us (Some x) e h = (e, h)

  agree_each : (us : List TypeUse) → NoOther (naming us) → All (Agrees source fs) us
  agree_each [] h = All-nil (Agrees source fs)
  agree_each (u ∷ us) h =
      let k = apart_of u us u.sig refl h in
      All-cons (Agrees source fs) u us (fits_use (field_at fs (index_in source fs u.sig)) u k.0) (agree_each us k.1)

  no_other_each : (us : List TypeUse) → All (Agrees source fs) us → NoOther (naming us)
  no_other_each [] h = tt
  no_other_each (u ∷ us) h =
      together u us u.sig (not_other (field_at fs (index_in source fs u.sig)) u (All-head (Agrees source fs) u us h)) (no_other_each us (All-tail (Agrees source fs) u us h))

module _ (source : List ℕ) (bounds : Bounds) (tokens : List Token) (fields : List Field) (spelled : (file_within source bounds).spelled tokens fields []) where
  fields_found : fields_in source tokens ≡ types_in fields
  fields_found = (file_has source bounds tokens fields [] spelled).fields ∙ append-nil (types_in fields)

  uses_found : sigs (uses_in source tokens) ≡ naming (all_uses fields)
  uses_found = (file_has source bounds tokens fields [] spelled).uses ∙ append-nil (naming (all_uses fields))

  pub agree_from_scan : mismatch source tokens ≡ None → AllAgree source fields
  agree_from_scan e =
      let none : NoOther source (fields_in source tokens) (sigs (uses_in source tokens)) = none_differs source (fields_in source tokens) (uses_in source tokens) e in
      agree_each source (types_in fields) (all_uses fields)
      (subst (λ (us : List TypeUse). NoOther source (types_in fields) us) uses_found (subst (λ (fs : List TypeField). NoOther source fs (sigs (uses_in source tokens))) fields_found none))

  pub scan_from_agree : AllAgree source fields → mismatch source tokens ≡ None
  scan_from_agree h =
      let none : NoOther source (types_in fields) (naming (all_uses fields)) = no_other_each source (types_in fields) (all_uses fields) h in
      differs_none source (fields_in source tokens) (uses_in source tokens)
      (subst (λ (fs : List TypeField). NoOther source fs (sigs (uses_in source tokens))) (sym fields_found) (subst (λ (us : List TypeUse). NoOther source (types_in fields) us) (sym uses_found) none))
