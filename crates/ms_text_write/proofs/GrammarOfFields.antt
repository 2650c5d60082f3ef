-- What the grammar takes of fields as they are written.
use Rattle.std.proofs.Common.{◌≡◌, ◌++◌, ◌&&◌, ◌||◌, ◌<◌, ℕ, Bool, true, false, List, [], ◌∷◌, Some, None, All, refl, sym, ap, subst, ◌∙◌, append_assoc}
use Rattle.std.specs.Prelude.{map}
use Rattle.std.specs.Str.{bytes_eq, is_utf8}
use Rattle.std.proofs.lemmas.List.Elements.{All-head, All-tail}
use Rattle.ms_bytes.specs.Do.{◌>>=◌}
use Rattle.ms_bytes.specs.Parts.{pure}
use Rattle.ms_types.specs.declared.types.FuncType.{FuncType}
use Rattle.ms_types.specs.declared.types.Limits.{Limits}
use Rattle.ms_types.specs.declared.types.ValType.{ValType}
use Rattle.ms_module.specs.declared.instr.Instr.{Instr}
use Rattle.ms_module.specs.declared.module.ImportDesc.{ImportDesc}
use Rattle.ms_module.specs.declared.module.ImportDesc.TheVariants as imported
use Rattle.ms_module.specs.declared.module.Import.{Import}
use Rattle.ms_module.specs.declared.module.Func.{Func}
use Rattle.ms_module.specs.declared.module.Global.{Global}
use Rattle.ms_module.specs.declared.module.ExportDesc.{ExportDesc}
use Rattle.ms_module.specs.declared.module.ExportDesc.TheVariants as exported
use Rattle.ms_module.specs.declared.module.Export.{Export}
use Rattle.ms_module.specs.declared.module.Element.{Element}
use Rattle.ms_module.specs.declared.module.Fill.{Fill}
use Rattle.ms_flat.specs.Keywords.{value_word}
use Rattle.ms_text_lex.specs.Tokens.{text_of}
use Rattle.ms_text_write.specs.Parts.{string_text}
use Rattle.ms_text_lex.specs.Values.{bytes_in, value_of}
use Rattle.ms_text_lex.specs.declared.token.Token.{Token}
use Rattle.ms_text_grammar.specs.declared.surface.Entry.{Entry}
use Rattle.ms_text_grammar.specs.declared.surface.ExternKind.{ExternKind}
use Rattle.ms_text_grammar.specs.declared.surface.ExternKind.TheVariants as kind
use Rattle.ms_text_grammar.specs.declared.surface.Field.{Field}
use Rattle.ms_text_grammar.specs.declared.surface.Field.TheVariants as field
use Rattle.ms_text_grammar.specs.declared.surface.ImportNames.{ImportNames}
use Rattle.ms_text_grammar.specs.declared.surface.Index.TheVariants.{Number}
use Rattle.ms_text_grammar.specs.declared.surface.Item.{Item as Defined}
use Rattle.ms_text_grammar.specs.declared.surface.Item.TheVariants as defined
use Rattle.ms_text_grammar.specs.declared.word.Word.{Word}
use Rattle.ms_text_grammar.specs.declared.word.Word.TheVariants as word
use Rattle.ms_text_grammar.specs.Bounds.{Bounds}
use Rattle.ms_text_grammar.specs.Keywords.{spelling}
use Rattle.ms_text_grammar.specs.Tokens.{begins, begins_index, is_close, is_id, is_keyword, is_number, is_text, is_word, next}
use Rattle.ms_text_grammar.specs.Faults.{Textual}
use Rattle.ms_text_grammar.specs.Numbers.{if_so, optional_index, optional_index_by}
use Rattle.ms_text_grammar.specs.Parts.{closing, list_goes, listed, name, opening, optional_id, string}
use Rattle.ms_text_grammar.specs.Entries.{content, data_field, definition, element_field, entry, entry_field, export_field, extern_kind, import_field, import_names, indices, inline_exports, inline_import, inline_import_by, kind_of, memory_by, next_export, next_index, next_string, offset, offset_by, strings, table_by}
use Rattle.ms_text_grammar.specs.Entries as entries
use Rattle.ms_text_grammar.specs.Fields.{File, among, behind_field, field_words, may_stand, next_field, standing, with_field}
use Rattle.ms_text_write.proofs.ReadStrings.{string_is_read}
use Rattle.ms_text_write.proofs.Pieces as piece
use Rattle.ms_text_write.proofs.Pieces.{Piece, Shows, body_pieces, element_pieces, export_desc_pieces, export_pieces, fill_pieces, func_pieces, func_type_pieces, global_pieces, global_type_pieces, group_pieces, import_desc_pieces, import_pieces, indexed_pieces, left, limits_pieces, memory_pieces, mutable_pieces, place_pieces, right, table_pieces}
use Rattle.ms_text_write.proofs.Said.{SaysExport, SaysFill, SaysImport, body_said, element_field as said_element, func_field, global_field, import_item, memory_field, params_of, sig_field, table_field, use_of}
use Rattle.ms_text_write.proofs.Sayable.{Narrow, SayableBody, SayableElement, SayableExport, SayableExportDesc, SayableFill, SayableFunc, SayableImport, SayableImportDesc, SayableLimits, SayableName}
use Rattle.ms_text_write.proofs.Gives.{Gives, both, chosen, closed, first_is, gives, grouped, has_word, known, opened, past, single, starts, starts_is, steps, stops, token, weaker}
use Rattle.ms_text_write.proofs.GrammarOfParts.{all_steps, index_given, no_id, none_opens, starts_id, worded}
use Rattle.ms_text_write.proofs.GrammarOfTypes.{global_given, limits_given, locals_given, no_groups, no_start, table_given, type_field_given, use_given}
use Rattle.ms_text_write.proofs.GrammarOfInstructions.{calm_opens}
use Rattle.ms_text_write.proofs.GrammarOfBodies.{body_calm, body_given}

-- a token that stands for bytes
abbrev Means : (source : List ℕ) → List ℕ → Token → Type 0
Means source bs t = value_of source t ≡ bs

meant : (source bs : List ℕ) → All (λ b. b < 256) bs → (t : Token) → text_of source t ≡ string_text bs → value_of source t ≡ bs
meant source bs h t e = ap bytes_in e ∙ (string_is_read bs h).1

-- behind the names of an import
abbrev behind_names : (source : List ℕ) → Bounds → ImportNames → Textual Entry
behind_names source bounds names = do
  begin ← opening source
  kind ← extern_kind source bounds
  id ← optional_id source
  what ← entries.imported source bounds kind
  close ← closing source
  pure (entry id [] (Some names) what)

-- what doesn't stand in front of the type of a global
no_label : (m : Bool) (ty : Piece) (P Q : List Piece) → is_id ty.kind ≡ false → starts_id ((mutable_pieces m ty ++ P) ++ Q) ≡ false
no_label true ty P Q e = refl
no_label false ty P Q e = e

-- no parameters and no results stand behind the type of a function
no_type : (w : Word) (tys : List ValType) (Q : List Piece) → bytes_eq (spelling word.Local) (spelling w) ≡ false → starts w Q ≡ false → starts w (group_pieces word.Local tys ++ Q) ≡ false
no_type w [] Q k e = e
no_type w (ty ∷ tys) Q k e = k

-- a field for which R holds, behind those so far
abbrev pub Adds : File → (Field → Type 0) → File → Type 0
Adds file R g = (f : Field) × R f × (g ≡ with_field f file)

-- pieces that are put together otherwise
pub other_way : {A : Type 0} {source : List ℕ} {F : List Token → A → List Token → Type 0} {R : A → Type 0} {Q : List Piece} (P S : List Piece) → P ≡ S → Gives source F S R Q → Gives source F P R Q
other_way {source = source} {F = F} {R = R} {Q = Q} P S e a = subst (λ l. Gives source F l R Q) (sym e) a

three : (xs ys zs Q : List Piece) → (xs ++ (ys ++ zs)) ++ Q ≡ xs ++ (ys ++ (zs ++ Q))
three xs ys zs Q = append_assoc xs (ys ++ zs) Q ∙ ap (λ (l : List Piece). xs ++ l) (append_assoc ys zs Q)

four : (ws xs ys zs Q : List Piece) → ((ws ++ xs) ++ (ys ++ zs)) ++ Q ≡ ws ++ (xs ++ (ys ++ (zs ++ Q)))
four ws xs ys zs Q = three (ws ++ xs) ys zs Q ∙ append_assoc ws xs (ys ++ (zs ++ Q))

-- what doesn't stand in front of the type of a global
no_word : (w : Word) (m : Bool) (ty : List ℕ) (P : List Piece) → bytes_eq (spelling word.Mut) (spelling w) ≡ false → starts w (mutable_pieces m (piece.keyword ty) ++ P) ≡ false
no_word w true ty P e = e
no_word w false ty P e = refl

no_name : (m : Bool) (ty : List ℕ) (P : List Piece) → starts_id (mutable_pieces m (piece.keyword ty) ++ P) ≡ false
no_name true ty P = refl
no_name false ty P = refl

module _ {source : List ℕ} where
  -- ---- strings

  name_given : {P : List Piece} (bs : List ℕ) → SayableName bs → Gives source (name source).spelled (piece.string bs ∷ P) (Means source bs) P
  name_given bs h = token (λ t. is_text t.kind && is_utf8 (value_of source t)) (Means source bs) (λ t k w. let m = meant source bs h.0 t w in (rw (k, m) h.1, m))

  string_given : {P : List Piece} (bs : List ℕ) → All (λ b. b < 256) bs → Gives source (string source).spelled (piece.string bs ∷ P) (Means source bs) P
  string_given bs h = token (λ t. is_text t.kind) (Means source bs) (λ t k w. (rw k refl, meant source bs h t w))

  -- an index where there may be none
  there : {P : List Piece} (x : ℕ) → Narrow x → Gives source (optional_index source).spelled (piece.number x ∷ P) (λ y. y ≡ Number x) P
  unfolding optional_index optional_index_by
  there {P = P} x h = chosen begins_index (λ b. (optional_index_by source b).spelled) true (λ s g. first_is (λ k w. is_id k || is_number k) s (piece.number x ∷ P) g) (index_given x h)

module _ {source : List ℕ} (bounds : Bounds) where
  -- ---- imports

  extern_given : {P : List Piece} (w : Word) (k : ExternKind) → kind_of (spelling w) ≡ Some k → Gives source (extern_kind source bounds).spelled (piece.the w ∷ P) (λ x. x ≡ k) P
  unfolding extern_kind
  extern_given w k e = single (λ k w. if_so (is_keyword k) (kind_of w)) k e

  desc_given : (names : ImportNames) (d : ImportDesc) (Q : List Piece) → SayableImportDesc d → Gives source (behind_names source bounds names).spelled (import_desc_pieces d ++ Q) (λ e. e ≡ entry None [] (Some names) (import_item d)) Q
  unfolding import_desc_pieces table_pieces memory_pieces entries.imported
  desc_given names (imported.Func x) Q h =
      past opened (λ begin. known (extern_given word.Func kind.Func refl) (known (no_id refl)
      (known (known (use_given x (right ∷ Q) h refl refl) (past (none_opens refl) (λ none. gives (λ y. y ≡ import_item (imported.Func x)) refl)))
      (past closed (λ close. gives (λ e. e ≡ entry None [] (Some names) (import_item (imported.Func x))) refl)))))
  desc_given names (imported.Table l) Q h =
      past opened (λ begin. known (extern_given word.Table kind.Table refl) (known (no_id refl)
      (known (grouped (limits_pieces l) (piece.the word.Funcref ∷ right ∷ []) Q (known (table_given l (right ∷ Q) h) (gives (λ y. y ≡ import_item (imported.Table l)) refl)))
      (past closed (λ close. gives (λ e. e ≡ entry None [] (Some names) (import_item (imported.Table l))) refl)))))
  desc_given names (imported.Memory l) Q h =
      past opened (λ begin. known (extern_given word.Memory kind.Memory refl) (known (no_id refl)
      (known (grouped (limits_pieces l) (right ∷ []) Q (known (limits_given l (right ∷ Q) h refl) (gives (λ y. y ≡ import_item (imported.Memory l)) refl)))
      (past closed (λ close. gives (λ e. e ≡ entry None [] (Some names) (import_item (imported.Memory l))) refl)))))
  desc_given names (imported.Global g) Q h =
      past opened (λ begin. known (extern_given word.Global kind.Global refl) (known (no_id (no_label g.mutable (piece.keyword (value_word g.ty)) (right ∷ []) Q refl))
      (known (grouped (global_type_pieces g) (right ∷ []) Q (known (global_given g (right ∷ Q)) (gives (λ y. y ≡ import_item (imported.Global g)) refl)))
      (past closed (λ close. gives (λ e. e ≡ entry None [] (Some names) (import_item (imported.Global g))) refl)))))

  import_given : (i : Import) (Q : List Piece) → SayableImport i → Gives source (import_field source bounds).spelled (piece.string i.«module» ∷ piece.string i.name ∷ (import_desc_pieces i.desc ++ Q)) (λ e. SaysImport source (field.Entry e) i) Q
  unfolding import_field import_names
  import_given i Q h =
      both {R = λ names. (value_of source names.«module» ≡ i.«module») × (value_of source names.name ≡ i.name)}
      (both (name_given i.«module» h.from) (λ from m. both (name_given i.name h.known_as) (λ known_as n. gives (λ names. (value_of source names.«module» ≡ i.«module») × (value_of source names.name ≡ i.name)) (m, n))))
      (λ names r. weaker (λ e. e ≡ entry None [] (Some names) (import_item i.desc)) (λ e. SaysImport source (field.Entry e) i) (λ e k. record { names = names; is = ap field.Entry k; from = r.0; known_as = r.1 }) (desc_given names i.desc Q h.desc))

  -- ---- definitions

  -- without identifier, exports and import
  entry_given : (before : Bool) (k : ExternKind) (d : Defined) (P Q : List Piece) → starts_id P ≡ false → starts word.Export P ≡ false → starts word.Import P ≡ false → Gives source (definition source bounds k).spelled P (λ x. x ≡ d) Q
      → Gives source (entry_field source bounds before k).spelled P (λ e. e ≡ entry None [] None d) Q
  unfolding entry_field inline_exports inline_import inline_import_by content
  entry_given before k d P Q i e m a =
      known (no_id i) (known (no_groups word.Export (λ x. next_export source bounds x) [] P e)
      (known (chosen (begins source word.Import) (λ b. (inline_import_by source bounds before b).spelled) false (λ s h. starts_is word.Import s P h ∙ m) (gives (λ x. x ≡ None) refl))
      (known a (gives (λ x. x ≡ entry None [] None d) refl))))

  func_given : (f : Func) (Q : List Piece) → SayableFunc bounds f → Gives source (definition source bounds kind.Func).spelled (indexed_pieces word.Type f.sig ++ (group_pieces word.Local f.locals ++ (body_pieces f.body ++ right ∷ Q))) (λ x. x ≡ defined.Func (use_of f.sig) (params_of f.locals) (body_said f.body)) (right ∷ Q)
  unfolding definition
  func_given f Q h =
      let code = body_pieces f.body ++ right ∷ Q in
      let still = body_calm bounds.blocks f.body Q h.body in
      known (use_given f.sig (group_pieces word.Local f.locals ++ code) h.sig (no_type word.Param f.locals code refl (no_start word.Param code (calm_opens code still))) (no_type word.Result f.locals code refl (no_start word.Result code (calm_opens code still))))
      (known (locals_given bounds.locals f.locals code h.few (no_start word.Local code (calm_opens code still)))
      (known (body_given bounds.blocks f.body Q h.body) (gives (λ x. x ≡ defined.Func (use_of f.sig) (params_of f.locals) (body_said f.body)) refl)))

  table_defined : (l : Limits) (Q : List Piece) → SayableLimits l → Gives source (definition source bounds kind.Table).spelled (limits_pieces l ++ piece.the word.Funcref ∷ Q) (λ x. x ≡ defined.Table l) Q
  unfolding definition table_by
  table_defined l Q h =
      let P = limits_pieces l ++ piece.the word.Funcref ∷ Q in
      chosen (next (is_word source (spelling word.Funcref))) (λ b. (table_by source bounds b).spelled) false (λ s g. first_is (has_word (spelling word.Funcref)) s P g)
      (past (none_opens refl) (λ none. known (table_given l Q h) (gives (λ x. x ≡ defined.Table l) refl)))

  memory_defined : (l : Limits) (Q : List Piece) → SayableLimits l → Gives source (definition source bounds kind.Memory).spelled (limits_pieces l ++ right ∷ Q) (λ x. x ≡ defined.Memory l) (right ∷ Q)
  unfolding definition memory_by
  memory_defined l Q h =
      let P = limits_pieces l ++ right ∷ Q in
      chosen (begins source word.Data) (λ b. (memory_by source bounds b).spelled) false (λ s g. starts_is word.Data s P g)
      (past (none_opens refl) (λ none. known (limits_given l (right ∷ Q) h refl) (gives (λ x. x ≡ defined.Memory l) refl)))

  global_defined : (g : Global) (Q : List Piece) → SayableBody bounds.blocks g.init → Gives source (definition source bounds kind.Global).spelled (global_type_pieces g.ty ++ (body_pieces g.init ++ right ∷ Q)) (λ x. x ≡ defined.Global g.ty (body_said g.init)) (right ∷ Q)
  unfolding definition
  global_defined g Q h = known (global_given g.ty (body_pieces g.init ++ right ∷ Q)) (known (body_given bounds.blocks g.init Q h) (gives (λ x. x ≡ defined.Global g.ty (body_said g.init)) refl))

  -- ---- the other fields

  export_by : (bs : List ℕ) (w : Word) (k : ExternKind) (x : ℕ) (Q : List Piece) → kind_of (spelling w) ≡ Some k → SayableName bs → Narrow x → Gives source (export_field source bounds).spelled (piece.string bs ∷ (indexed_pieces w x ++ Q)) (λ f. (t : Token) × (f ≡ field.Export t k (Number x)) × Means source bs t) Q
  unfolding export_field
  export_by bs w k x Q e h n =
      both (name_given bs h) (λ t m. past opened (λ begin. known (extern_given w k e) (known (index_given x n) (past closed (λ close. gives (λ f. (t : Token) × (f ≡ field.Export t k (Number x)) × Means source bs t) (t, refl, m))))))

  export_given : (e : Export) (Q : List Piece) → SayableExport e → Gives source (export_field source bounds).spelled (piece.string e.name ∷ (export_desc_pieces e.desc ++ Q)) (λ f. SaysExport source f e) Q
  export_given e Q h = go e.desc h.desc where
    go : (d : ExportDesc) → SayableExportDesc d → Gives source (export_field source bounds).spelled (piece.string e.name ∷ (export_desc_pieces d ++ Q)) (λ f. SaysExport source f (record { name = e.name; desc = d })) Q
    go (exported.Func x) n = weaker _ (λ f. SaysExport source f (record { name = e.name; desc = exported.Func x })) (λ f r. record { token = r.0; is = r.1; known_as = r.2 }) (export_by e.name word.Func kind.Func x Q refl h.name n)
    go (exported.Table x) n = weaker _ (λ f. SaysExport source f (record { name = e.name; desc = exported.Table x })) (λ f r. record { token = r.0; is = r.1; known_as = r.2 }) (export_by e.name word.Table kind.Table x Q refl h.name n)
    go (exported.Memory x) n = weaker _ (λ f. SaysExport source f (record { name = e.name; desc = exported.Memory x })) (λ f r. record { token = r.0; is = r.1; known_as = r.2 }) (export_by e.name word.Memory kind.Memory x Q refl h.name n)
    go (exported.Global x) n = weaker _ (λ f. SaysExport source f (record { name = e.name; desc = exported.Global x })) (λ f r. record { token = r.0; is = r.1; known_as = r.2 }) (export_by e.name word.Global kind.Global x Q refl h.name n)

  offset_given : (ss : List (List Instr)) (Q : List Piece) → SayableBody bounds.blocks ss → Gives source (offset source bounds).spelled (left ∷ piece.the word.Offset ∷ (body_pieces ss ++ right ∷ Q)) (λ y. y ≡ body_said ss) Q
  unfolding offset offset_by
  offset_given ss Q h =
      chosen (begins source word.Offset) (λ b. (offset_by source bounds b).spelled) true (λ s g. starts_is word.Offset s (left ∷ piece.the word.Offset ∷ (body_pieces ss ++ right ∷ Q)) g)
      (past opened (λ begin. past (worded word.Offset) (λ head. known (body_given bounds.blocks ss Q h) (past closed (λ close. gives (λ y. y ≡ body_said ss) refl)))))

  indices_given : (xs : List ℕ) (Q : List Piece) → All Narrow xs → Gives source (indices source bounds).spelled (map piece.number xs ++ right ∷ Q) (λ y. y ≡ map Number xs) (right ∷ Q)
  unfolding indices listed next_index
  indices_given xs Q h =
      all_steps (λ x s. list_goes source x s) (λ x. next_index source bounds x) piece.number Number (λ done xs. All Narrow xs) (right ∷ Q) (λ done x xs r. All-tail Narrow x xs r)
      (λ done x P s g. rw (first_is (λ k w. is_close k) s (piece.number x ∷ P) g) refl) (λ done r s g. rw (first_is (λ k w. is_close k) s (right ∷ Q) g) refl)
      (λ done x xs P r. known (index_given x (All-head Narrow x xs r)) (gives (λ y. y ≡ done ++ Number x ∷ []) refl)) [] xs h

  strings_given : (bs : List ℕ) (Q : List Piece) → All (λ b. b < 256) bs → Gives source (strings source bounds).spelled (piece.string bs ∷ right ∷ Q) (λ ts. (t : Token) × (ts ≡ t ∷ []) × Means source bs t) (right ∷ Q)
  unfolding strings listed next_string
  strings_given bs Q h =
      let going = λ (x : List Token) (s : List Token). list_goes source x s in
      steps {M = λ ts. (t : Token) × (ts ≡ t ∷ []) × Means source bs t} going (λ x. next_string source bounds x) [] (λ s g. rw (first_is (λ k w. is_close k) s (piece.string bs ∷ right ∷ Q) g) refl)
      (both (string_given bs h) (λ t m. gives (λ ts. (t : Token) × (ts ≡ t ∷ []) × Means source bs t) (t, refl, m)))
      (λ ts r. stops going (λ x. next_string source bounds x) (λ ts. (t : Token) × (ts ≡ t ∷ []) × Means source bs t) ts (λ s g. rw (first_is (λ k w. is_close k) s (right ∷ Q) g) refl) r)

  element_given : (e : Element) (Q : List Piece) → SayableElement bounds e → Gives source (element_field source bounds).spelled (piece.number e.table ∷ left ∷ piece.the word.Offset ∷ (body_pieces e.offset ++ right ∷ (map piece.number e.funcs ++ right ∷ Q))) (λ f. f ≡ said_element e) (right ∷ Q)
  unfolding element_field
  element_given e Q h = known (there e.table h.table) (known (offset_given e.offset (map piece.number e.funcs ++ right ∷ Q) h.offset) (known (indices_given e.funcs Q h.funcs) (gives (λ f. f ≡ said_element e) refl)))

  fill_given : (x : Fill) (Q : List Piece) → SayableFill bounds x → Gives source (data_field source bounds).spelled (piece.number x.memory ∷ left ∷ piece.the word.Offset ∷ (body_pieces x.offset ++ right ∷ piece.string x.bytes ∷ right ∷ Q)) (λ f. SaysFill source f x) (right ∷ Q)
  unfolding data_field
  fill_given x Q h =
      known (there x.memory h.memory) (known (offset_given x.offset (piece.string x.bytes ∷ right ∷ Q) h.offset) (both (strings_given x.bytes Q h.bytes)
      (λ ts r. gives (λ f. SaysFill source f x) (record { token = r.0; is = ap (λ (l : List Token). field.Data (Number x.memory) (body_said x.offset) l) r.1; bytes = r.2 }))))

  -- ---- whole fields

  field_given : (file : File) (w : Word) (R : Field → Type 0) (P Q : List Piece) → among field_words (spelling w) ≡ Some w → may_stand file w ≡ true → Gives source (behind_field source bounds file.defined w).spelled P R (right ∷ Q)
      → Gives source (next_field source bounds file).spelled (left ∷ piece.the w ∷ P) (Adds file R) Q
  unfolding next_field
  field_given file w R P Q e m a =
      past opened (λ begin. known (single (λ k v. standing file (if_so (is_keyword k) (among field_words v))) w (rw (e, m) refl))
      (both a (λ f r. past closed (λ close. gives (Adds file R) (f, r, refl)))))

  pub sig_field_given : (file : File) (ft : FuncType) (Q : List Piece) → Gives source (next_field source bounds file).spelled (func_type_pieces ft ++ Q) (Adds file (λ f. f ≡ sig_field ft)) Q
  unfolding behind_field field_words func_type_pieces
  sig_field_given file ft Q =
      let ends = group_pieces word.Param ft.params ++ (group_pieces word.Result ft.results ++ right ∷ right ∷ []) in
      field_given file word.Type (λ f. f ≡ sig_field ft) (left ∷ piece.the word.Func ∷ (ends ++ Q)) Q refl refl (known (type_field_given ft Q) (gives (λ f. f ≡ sig_field ft) refl))

  pub import_field_given : (file : File) (i : Import) (Q : List Piece) → file.defined ≡ false → SayableImport i → Gives source (next_field source bounds file).spelled (import_pieces i ++ Q) (Adds file (λ f. SaysImport source f i)) Q
  unfolding behind_field field_words import_pieces
  import_field_given file i Q d h =
      let names = piece.string i.«module» ∷ piece.string i.name ∷ import_desc_pieces i.desc in
      field_given file word.Import (λ f. SaysImport source f i) ((names ++ right ∷ []) ++ Q) Q refl (rw d refl)
      (grouped names (right ∷ []) Q (both (import_given i (right ∷ Q) h) (λ e r. gives (λ f. SaysImport source f i) r)))

  pub func_field_given : (file : File) (x : Func) (Q : List Piece) → SayableFunc bounds x → Gives source (next_field source bounds file).spelled (func_pieces x ++ Q) (Adds file (λ f. f ≡ func_field x)) Q
  unfolding behind_field field_words func_pieces
  func_field_given file x Q h =
      let sig = indexed_pieces word.Type x.sig in
      let locals = group_pieces word.Local x.locals in
      let code = body_pieces x.body in
      let P = sig ++ (locals ++ (code ++ right ∷ Q)) in
      field_given file word.Func (λ f. f ≡ func_field x) ((sig ++ (locals ++ (code ++ right ∷ []))) ++ Q) Q refl refl
      (other_way ((sig ++ (locals ++ (code ++ right ∷ []))) ++ Q) P (ap (λ (l : List Piece). sig ++ l) (three locals code (right ∷ []) Q))
      (known (entry_given file.defined kind.Func (defined.Func (use_of x.sig) (params_of x.locals) (body_said x.body)) P (right ∷ Q) refl refl refl (func_given x Q h)) (gives (λ f. f ≡ func_field x) refl)))

  pub table_field_given : (file : File) (x : Limits) (Q : List Piece) → SayableLimits x → Gives source (next_field source bounds file).spelled (table_pieces x ++ Q) (Adds file (λ f. f ≡ table_field x)) Q
  unfolding behind_field field_words table_pieces
  table_field_given file x Q h =
      let size = limits_pieces x in
      field_given file word.Table (λ f. f ≡ table_field x) ((size ++ piece.the word.Funcref ∷ right ∷ []) ++ Q) Q refl refl
      (grouped size (piece.the word.Funcref ∷ right ∷ []) Q
      (known (entry_given file.defined kind.Table (defined.Table x) (size ++ piece.the word.Funcref ∷ right ∷ Q) (right ∷ Q) refl refl refl (table_defined x (right ∷ Q) h)) (gives (λ f. f ≡ table_field x) refl)))

  pub memory_field_given : (file : File) (x : Limits) (Q : List Piece) → SayableLimits x → Gives source (next_field source bounds file).spelled (memory_pieces x ++ Q) (Adds file (λ f. f ≡ memory_field x)) Q
  unfolding behind_field field_words memory_pieces
  memory_field_given file x Q h =
      let size = limits_pieces x in
      field_given file word.Memory (λ f. f ≡ memory_field x) ((size ++ right ∷ []) ++ Q) Q refl refl
      (grouped size (right ∷ []) Q
      (known (entry_given file.defined kind.Memory (defined.Memory x) (size ++ right ∷ Q) (right ∷ Q) refl refl refl (memory_defined x Q h)) (gives (λ f. f ≡ memory_field x) refl)))

  pub global_field_given : (file : File) (x : Global) (Q : List Piece) → SayableBody bounds.blocks x.init → Gives source (next_field source bounds file).spelled (global_pieces x ++ Q) (Adds file (λ f. f ≡ global_field x)) Q
  unfolding behind_field field_words global_pieces
  global_field_given file x Q h =
      let ty = global_type_pieces x.ty in
      let code = body_pieces x.init in
      let P = ty ++ (code ++ right ∷ Q) in
      let name = value_word x.ty.ty in
      field_given file word.Global (λ f. f ≡ global_field x) ((ty ++ (code ++ right ∷ [])) ++ Q) Q refl refl
      (other_way ((ty ++ (code ++ right ∷ [])) ++ Q) P (three ty code (right ∷ []) Q)
      (known (entry_given file.defined kind.Global (defined.Global x.ty (body_said x.init)) P (right ∷ Q) (no_name x.ty.mutable name (code ++ right ∷ Q)) (no_word word.Export x.ty.mutable name (code ++ right ∷ Q) refl) (no_word word.Import x.ty.mutable name (code ++ right ∷ Q) refl) (global_defined x Q h))
      (gives (λ f. f ≡ global_field x) refl)))

  pub export_field_given : (file : File) (x : Export) (Q : List Piece) → SayableExport x → Gives source (next_field source bounds file).spelled (export_pieces x ++ Q) (Adds file (λ f. SaysExport source f x)) Q
  unfolding behind_field field_words export_pieces
  export_field_given file x Q h =
      let named = piece.string x.name ∷ export_desc_pieces x.desc in
      field_given file word.Export (λ f. SaysExport source f x) ((named ++ right ∷ []) ++ Q) Q refl refl (grouped named (right ∷ []) Q (export_given x (right ∷ Q) h))

  pub start_field_given : (file : File) (x : ℕ) (Q : List Piece) → file.started ≡ false → Narrow x → Gives source (next_field source bounds file).spelled (indexed_pieces word.Start x ++ Q) (Adds file (λ f. f ≡ field.Start (Number x))) Q
  unfolding behind_field field_words
  start_field_given file x Q s h =
      field_given file word.Start (λ f. f ≡ field.Start (Number x)) (piece.number x ∷ right ∷ Q) Q refl (rw s refl) (known (index_given x h) (gives (λ f. f ≡ field.Start (Number x)) refl))

  pub element_field_given : (file : File) (x : Element) (Q : List Piece) → SayableElement bounds x → Gives source (next_field source bounds file).spelled (element_pieces x ++ Q) (Adds file (λ f. f ≡ said_element x)) Q
  unfolding behind_field field_words element_pieces place_pieces
  element_field_given file x Q h =
      let at = piece.number x.table ∷ left ∷ piece.the word.Offset ∷ [] in
      let code = body_pieces x.offset in
      let funcs = map piece.number x.funcs in
      let whole = ((code ++ right ∷ []) ++ (funcs ++ right ∷ [])) ++ Q in
      field_given file word.Elem (λ f. f ≡ said_element x) (at ++ whole) Q refl refl
      (other_way (at ++ whole) (at ++ (code ++ right ∷ (funcs ++ right ∷ Q))) (ap (λ (l : List Piece). at ++ l) (four code (right ∷ []) funcs (right ∷ []) Q)) (element_given x Q h))

  pub fill_field_given : (file : File) (x : Fill) (Q : List Piece) → SayableFill bounds x → Gives source (next_field source bounds file).spelled (fill_pieces x ++ Q) (Adds file (λ f. SaysFill source f x)) Q
  unfolding behind_field field_words fill_pieces place_pieces
  fill_field_given file x Q h =
      let at = piece.number x.memory ∷ left ∷ piece.the word.Offset ∷ [] in
      let code = body_pieces x.offset in
      let bytes = piece.string x.bytes ∷ [] in
      let whole = ((code ++ right ∷ []) ++ (bytes ++ right ∷ [])) ++ Q in
      field_given file word.Data (λ f. SaysFill source f x) (at ++ whole) Q refl refl
      (other_way (at ++ whole) (at ++ (code ++ right ∷ (bytes ++ right ∷ Q))) (ap (λ (l : List Piece). at ++ l) (four code (right ∷ []) bytes (right ∷ []) Q)) (fill_given x Q h))
