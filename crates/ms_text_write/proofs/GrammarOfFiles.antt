-- The grammar of files gives of a module as it is written the fields that are said of it.
use Rattle.std.proofs.Common.{◌≡◌, ◌++◌, ◌||◌, ℕ, Bool, true, false, not, List, [], ◌∷◌, Option, Some, None, All, refl, sym, ap, subst, ◌∙◌, append_assoc}
use Rattle.std.specs.Prelude.{map}
use Rattle.std.specs.List.{flat_map}
use Rattle.std.proofs.lemmas.List.{append-nil}
use Rattle.std.proofs.lemmas.List.Elements.{All-cons, All-head, All-nil, All-tail}
use Rattle.ms_bytes.specs.Parts.{ended}
use Rattle.ms_bytes.specs.Runs.{Runs}
use Rattle.ms_module.specs.declared.module.ExportDesc.{ExportDesc}
use Rattle.ms_module.specs.declared.module.ExportDesc.TheVariants as exported
use Rattle.ms_module.specs.declared.module.Module.{Module}
use Rattle.ms_text_lex.specs.declared.token.Token.{Token}
use Rattle.ms_text_grammar.specs.declared.surface.Field.{Field}
use Rattle.ms_text_grammar.specs.declared.word.Word.TheVariants as word
use Rattle.ms_text_grammar.specs.Bounds.{Bounds}
use Rattle.ms_text_grammar.specs.Tokens.{begins}
use Rattle.ms_text_grammar.specs.Faults.{bad}
use Rattle.ms_text_grammar.specs.Fields.{File, all_fields, fields_go, file_by, file_within, first_file, is_definition, is_start, next_field, with_field}
use Rattle.ms_text_write.proofs.Pieces as piece
use Rattle.ms_text_write.proofs.Pieces.{Piece, Shows, element_pieces, export_pieces, fill_pieces, func_pieces, func_type_pieces, global_pieces, import_pieces, indexed_pieces, left, memory_pieces, module_pieces, parts_pieces, right, start_pieces, table_pieces, uses_pieces}
use Rattle.ms_text_write.proofs.Pieces.Shows.{none, more}
use Rattle.ms_text_write.proofs.Said.{Says, SaysEach, SaysExport, SaysFill, SaysImport, element_field, export_field, func_field, global_field, memory_field, parts_fields, sig_field, start_fields, table_field, uses_fields}
use Rattle.ms_text_write.proofs.Said as said
use Rattle.ms_text_write.proofs.Sayable.{Sayable, SayableBody, SayableElement, SayableExport, SayableFill, SayableFunc, SayableImport, SayableLimits, SayableMax}
use Rattle.ms_text_write.proofs.Gives.{Gives, both, chosen, closed, gives, grouped, known, opened, past, starts_is, steps, stops}
use Rattle.ms_text_write.proofs.GrammarOfParts.{no_id, starts_close, starts_id, worded}
use Rattle.ms_text_write.proofs.GrammarOfFields.{Adds, element_field_given, export_field_given, fill_field_given, func_field_given, global_field_given, import_field_given, memory_field_given, other_way, sig_field_given, start_field_given, table_field_given}

-- ---- what is known of the fields so far

-- in parentheses, and no start and no definition among them
abbrev IsFirst : File → Type 0
IsFirst file = (file.bracketed ≡ true) × (file.started ≡ false) × (file.defined ≡ false)

-- in parentheses, and no start among them
abbrev IsNotStarted : File → Type 0
IsNotStarted file = (file.bracketed ≡ true) × (file.started ≡ false)

abbrev IsBracketed : File → Type 0
IsBracketed file = file.bracketed ≡ true

still : (a b : Bool) → a ≡ false → b ≡ false → (a || b) ≡ false
still a b e f = rw (e, f) refl

stays_first : (f : Field) (file : File) → is_start f ≡ false → is_definition f ≡ false → IsFirst file → IsFirst (with_field f file)
stays_first f file s d h = (h.0, still file.started (is_start f) h.1 s, still file.defined (is_definition f) h.2 d)

stays_not_started : (f : Field) (file : File) → is_start f ≡ false → IsNotStarted file → IsNotStarted (with_field f file)
stays_not_started f file s h = (h.0, still file.started (is_start f) h.1 s)

export_starts : (t : Token) (d : ExportDesc) → is_start (export_field t d) ≡ false
export_starts t (exported.Func x) = refl
export_starts t (exported.Table x) = refl
export_starts t (exported.Memory x) = refl
export_starts t (exported.Global x) = refl

no_start : (f g : Field) → f ≡ g → is_start g ≡ false → is_start f ≡ false
no_start f g e h = rw e h

no_definition : (f g : Field) → f ≡ g → is_definition g ≡ false → is_definition f ≡ false
no_definition f g e h = rw e h

-- fields that are told by what they say
said_map : {A : Type 0} (h : A → Field) (fs : List Field) (xs : List A) → SaysEach (λ f x. f ≡ h x) fs xs → fs ≡ map h xs
said_map h [] [] said.none = refl
said_map h [] (x ∷ xs) s = elim s [ ]
said_map h (f ∷ fs) [] s = elim s [ ]
said_map h (f ∷ fs) (x ∷ xs) (said.more _ _ _ _ e s) = rw (e, said_map h fs xs s) refl

-- nothing is asked of these
none_asked : {A : Type 0} (xs : List A) → All (λ x. Unit {0}) xs
none_asked [] = All-nil (λ x. Unit {0})
none_asked (x ∷ xs) = All-cons (λ x. Unit {0}) x xs tt (none_asked xs)

-- the fields that are taken from here on
abbrev Running : (source : List ℕ) → Bounds → File → List Piece → (File → Type 0) → List Piece → Type 0
Running source bounds file P R T = Gives source (λ s x t. Runs (fields_go source bounds) (next_field source bounds) file s x t) P R T

-- a list of fields is taken where this holds of the file so far, which goes on to hold
abbrev Lists : {X : Type 0} → (source : List ℕ) → Bounds → (X → List Piece) → (Field → X → Type 0) → (X → Type 0) → (File → Type 0) → Type 1
Lists {X} source bounds pieces SaysIt Fits Stays =
    (T : List Piece) (R : File → Type 0) (Q : List Piece) (file : File) (xs : List X) → All Fits xs → Stays file
    → ((fs : List Field) (g : File) → SaysEach SaysIt fs xs → Stays g → g.fields ≡ file.fields ++ fs → Running source bounds g Q R T) → Running source bounds file (flat_map pieces xs ++ Q) R T

-- all fields one behind the other
pieces_nest : (a b c d e f g h i j z : List Piece) → (a ++ (b ++ (c ++ (d ++ (e ++ f))))) ++ ((g ++ (h ++ (i ++ j))) ++ z) ≡ a ++ (b ++ (c ++ (d ++ (e ++ (f ++ (g ++ (h ++ (i ++ (j ++ z)))))))))
pieces_nest a b c d e f g h i j z = simp append_assoc refl

fields_nest : (a b c d e f g h i j : List Field) → ((((((((a ++ b) ++ c) ++ d) ++ e) ++ f) ++ g) ++ h) ++ i) ++ j ≡ (a ++ (b ++ (c ++ (d ++ (e ++ f))))) ++ (g ++ (h ++ (i ++ j)))
fields_nest a b c d e f g h i j = simp append_assoc refl

-- ---- no identifier stands in front of fields

without_id : {X : Type 0} (pieces : X → List Piece) (xs : List X) (Q : List Piece) → ((x : X) (P : List Piece) → starts_id (pieces x ++ P) ≡ false) → starts_id Q ≡ false → starts_id (flat_map pieces xs ++ Q) ≡ false
without_id pieces [] Q f e = e
without_id pieces (x ∷ xs) Q f e = subst (λ (P : List Piece). starts_id P ≡ false) (sym (append_assoc (pieces x) (flat_map pieces xs) Q)) (f x (flat_map pieces xs ++ Q))

start_without : (o : Option ℕ) (Q : List Piece) → starts_id Q ≡ false → starts_id (start_pieces o ++ Q) ≡ false
start_without None Q e = e
start_without (Some x) Q e = refl

no_name : (m : Module) → starts_id (parts_pieces m ++ (uses_pieces m ++ right ∷ [])) ≡ false
unfolding parts_pieces uses_pieces func_type_pieces import_pieces func_pieces table_pieces memory_pieces global_pieces export_pieces element_pieces fill_pieces
no_name m =
    let T = right ∷ [] in
    let nest = pieces_nest (flat_map func_type_pieces m.sigs) (flat_map import_pieces m.imports) (flat_map func_pieces m.funcs) (flat_map table_pieces m.tables) (flat_map memory_pieces m.memories) (flat_map global_pieces m.globals) (flat_map export_pieces m.exports) (start_pieces m.start) (flat_map element_pieces m.elements) (flat_map fill_pieces m.fills) T in
    subst (λ (P : List Piece). starts_id P ≡ false) (sym nest)
    (without_id func_type_pieces m.sigs _ (λ x P. refl)
    (without_id import_pieces m.imports _ (λ x P. refl)
    (without_id func_pieces m.funcs _ (λ x P. refl)
    (without_id table_pieces m.tables _ (λ x P. refl)
    (without_id memory_pieces m.memories _ (λ x P. refl)
    (without_id global_pieces m.globals _ (λ x P. refl)
    (without_id export_pieces m.exports _ (λ x P. refl)
    (start_without m.start _
    (without_id element_pieces m.elements _ (λ x P. refl)
    (without_id fill_pieces m.fills T (λ x P. refl) refl))))))))))

module _ {source : List ℕ} where
  is_end : (s : List Token) → Shows source s [] → s ≡ []
  is_end [] none = refl
  is_end (t ∷ ts) h = elim h [ ]

  at_end : Gives source (ended {E = Token} (bad source)).spelled [] (λ x. Unit {0}) []
  at_end = record { takes = λ s h. (tt, [], (is_end s h, refl), tt, none) }

  starts_module : (P : List Piece) (s : List Token) → Shows source s (left ∷ piece.the word.Module ∷ P) → begins source word.Module s ≡ true
  starts_module P s h = starts_is word.Module s (left ∷ piece.the word.Module ∷ P) h

module _ {source : List ℕ} (bounds : Bounds) where
  goes_on : (file : File) (P : List Piece) → IsBracketed file → (s : List Token) → Shows source s P → fields_go source bounds file s ≡ not (starts_close P)
  goes_on file [] b [] none = b
  goes_on file (p ∷ ps) b [] h = elim h [ ]
  goes_on file [] b (t ∷ ts) h = elim h [ ]
  goes_on file (p ∷ ps) b (t ∷ ts) (more _ _ _ _ k e h) = rw (b, k) refl

  -- ---- a list of fields, and what stands behind it

  module _ {X : Type 0} (pieces : X → List Piece) (SaysIt : Field → X → Type 0) (Fits : X → Type 0) (Stays : File → Type 0) (opens : (x : X) (P : List Piece) → starts_close (pieces x ++ P) ≡ false)
      (brackets : (file : File) → Stays file → IsBracketed file) (stays : (x : X) (f : Field) (file : File) → SaysIt f x → Stays file → Stays (with_field f file))
      (step : (file : File) (x : X) (P : List Piece) → Stays file → Fits x → Gives source (next_field source bounds file).spelled (pieces x ++ P) (Adds file (λ f. SaysIt f x)) P) where
    all_given : (T : List Piece) (R : File → Type 0) (Q : List Piece) (file : File) (xs : List X) → All Fits xs → Stays file
        → ((fs : List Field) (g : File) → SaysEach SaysIt fs xs → Stays g → g.fields ≡ file.fields ++ fs → Gives source (λ s x t. Runs (fields_go source bounds) (next_field source bounds) g s x t) Q R T)
        → Gives source (λ s x t. Runs (fields_go source bounds) (next_field source bounds) file s x t) (flat_map pieces xs ++ Q) R T
    all_given T R Q file [] h st k = k [] file said.none st (sym (append-nil file.fields))
    all_given T R Q file (x ∷ xs) h st k =
        let rest = flat_map pieces xs ++ Q in
        let fits = All-tail Fits x xs h in
        grouped (pieces x) (flat_map pieces xs) Q
        (steps (λ g s. fields_go source bounds g s) (λ g. next_field source bounds g) file (λ s w. goes_on file (pieces x ++ rest) (brackets file st) s w ∙ ap not (opens x rest)) (step file x rest st (All-head Fits x xs h))
        (λ g r.
        let next = with_field r.0 file in
        let on = all_given T R Q next xs fits (stays x r.0 file r.1 st) (λ fs g' each st' e. k (r.0 ∷ fs) g' (said.more r.0 fs x xs r.1 each) st' (e ∙ append_assoc file.fields (r.0 ∷ []) fs)) in
        subst (λ z. Gives source (λ s x t. Runs (fields_go source bounds) (next_field source bounds) z s x t) rest R T) (sym r.2) on))

  sigs_given : Lists source bounds func_type_pieces (λ f x. f ≡ sig_field x) (λ x. Unit {0}) IsFirst
  unfolding func_type_pieces
  sigs_given =
      all_given func_type_pieces (λ f x. f ≡ sig_field x) (λ x. Unit {0}) IsFirst (λ x P. refl) (λ file st. st.0) (λ x f file e st. stays_first f file (no_start f (sig_field x) e refl) (no_definition f (sig_field x) e refl) st)
      (λ file x P st fit. sig_field_given bounds file x P)

  imports_given : Lists source bounds import_pieces (λ f x. SaysImport source f x) SayableImport IsFirst
  unfolding import_pieces
  imports_given =
      all_given import_pieces (λ f x. SaysImport source f x) SayableImport IsFirst (λ x P. refl) (λ file st. st.0) (λ x f file e st. stays_first f file (no_start f _ e.is refl) (no_definition f _ e.is refl) st)
      (λ file x P st fit. import_field_given bounds file x P st.2 fit)

  funcs_given : Lists source bounds func_pieces (λ f x. f ≡ func_field x) (SayableFunc bounds) IsNotStarted
  unfolding func_pieces
  funcs_given =
      all_given func_pieces (λ f x. f ≡ func_field x) (SayableFunc bounds) IsNotStarted (λ x P. refl) (λ file st. st.0) (λ x f file e st. stays_not_started f file (no_start f (func_field x) e refl) st)
      (λ file x P st fit. func_field_given bounds file x P fit)

  tables_given : Lists source bounds table_pieces (λ f x. f ≡ table_field x) SayableLimits IsNotStarted
  unfolding table_pieces
  tables_given =
      all_given table_pieces (λ f x. f ≡ table_field x) SayableLimits IsNotStarted (λ x P. refl) (λ file st. st.0) (λ x f file e st. stays_not_started f file (no_start f (table_field x) e refl) st)
      (λ file x P st fit. table_field_given bounds file x P fit)

  memories_given : Lists source bounds memory_pieces (λ f x. f ≡ memory_field x) SayableLimits IsNotStarted
  unfolding memory_pieces
  memories_given =
      all_given memory_pieces (λ f x. f ≡ memory_field x) SayableLimits IsNotStarted (λ x P. refl) (λ file st. st.0) (λ x f file e st. stays_not_started f file (no_start f (memory_field x) e refl) st)
      (λ file x P st fit. memory_field_given bounds file x P fit)

  globals_given : Lists source bounds global_pieces (λ f x. f ≡ global_field x) (λ x. SayableBody bounds.blocks x.init) IsNotStarted
  unfolding global_pieces
  globals_given =
      all_given global_pieces (λ f x. f ≡ global_field x) (λ x. SayableBody bounds.blocks x.init) IsNotStarted (λ x P. refl) (λ file st. st.0) (λ x f file e st. stays_not_started f file (no_start f (global_field x) e refl) st)
      (λ file x P st fit. global_field_given bounds file x P fit)

  exports_given : Lists source bounds export_pieces (λ f x. SaysExport source f x) SayableExport IsNotStarted
  unfolding export_pieces
  exports_given =
      all_given export_pieces (λ f x. SaysExport source f x) SayableExport IsNotStarted (λ x P. refl) (λ file st. st.0) (λ x f file e st. stays_not_started f file (no_start f (export_field e.token x.desc) e.is (export_starts e.token x.desc)) st)
      (λ file x P st fit. export_field_given bounds file x P fit)

  elements_given : Lists source bounds element_pieces (λ f x. f ≡ element_field x) (SayableElement bounds) IsBracketed
  unfolding element_pieces
  elements_given =
      all_given element_pieces (λ f x. f ≡ element_field x) (SayableElement bounds) IsBracketed (λ x P. refl) (λ file st. st) (λ x f file e st. st)
      (λ file x P st fit. element_field_given bounds file x P fit)

  fills_given : Lists source bounds fill_pieces (λ f x. SaysFill source f x) (SayableFill bounds) IsBracketed
  unfolding fill_pieces
  fills_given =
      all_given fill_pieces (λ f x. SaysFill source f x) (SayableFill bounds) IsBracketed (λ x P. refl) (λ file st. st) (λ x f file e st. st)
      (λ file x P st fit. fill_field_given bounds file x P fit)

  start_given : (T : List Piece) (R : File → Type 0) (Q : List Piece) (file : File) (o : Option ℕ) → SayableMax o → IsNotStarted file → ((g : File) → IsBracketed g → g.fields ≡ file.fields ++ start_fields o → Running source bounds g Q R T)
      → Running source bounds file (start_pieces o ++ Q) R T
  start_given T R Q file None h st k = k file st.0 (sym (append-nil file.fields))
  start_given T R Q file (Some x) h st k =
      let P = indexed_pieces word.Start x ++ Q in
      steps (λ g s. fields_go source bounds g s) (λ g. next_field source bounds g) file (λ s w. goes_on file P st.0 s w) (start_field_given bounds file x Q st.1 h)
      (λ g r.
      let next = with_field r.0 file in
      let fields : next.fields ≡ file.fields ++ start_fields (Some x) = ap (λ (f : Field). file.fields ++ f ∷ []) r.1 in
      subst (λ z. Running source bounds z Q R T) (sym r.2) (k next st.0 fields))

  -- ---- all of them

  all_said : (m : Module) → Sayable bounds m → Running source bounds (first_file true) (parts_pieces m ++ (uses_pieces m ++ right ∷ [])) (λ g. Says source g.fields m) (right ∷ [])
  unfolding parts_pieces uses_pieces
  all_said m h =
      let T = right ∷ [] in
      let R = λ (g : File). Says source g.fields m in
      let fills = flat_map fill_pieces m.fills ++ T in
      let elements = flat_map element_pieces m.elements ++ fills in
      let start = start_pieces m.start ++ elements in
      let exports = flat_map export_pieces m.exports ++ start in
      let globals = flat_map global_pieces m.globals ++ exports in
      let memories = flat_map memory_pieces m.memories ++ globals in
      let tables = flat_map table_pieces m.tables ++ memories in
      let funcs = flat_map func_pieces m.funcs ++ tables in
      let imports = flat_map import_pieces m.imports ++ funcs in
      other_way (parts_pieces m ++ (uses_pieces m ++ T)) (flat_map func_type_pieces m.sigs ++ imports)
      (pieces_nest (flat_map func_type_pieces m.sigs) (flat_map import_pieces m.imports) (flat_map func_pieces m.funcs) (flat_map table_pieces m.tables) (flat_map memory_pieces m.memories) (flat_map global_pieces m.globals)
      (flat_map export_pieces m.exports) (start_pieces m.start) (flat_map element_pieces m.elements) (flat_map fill_pieces m.fills) T)
      (sigs_given T R imports (first_file true) m.sigs (none_asked m.sigs) (refl, refl, refl) (λ fa a sa ha ea.
      imports_given T R funcs a m.imports h.imports ha (λ fb b sb hb eb.
      funcs_given T R tables b m.funcs h.funcs (hb.0, hb.1) (λ fc c sc hc ec.
      tables_given T R memories c m.tables h.tables hc (λ fd d sd hd ed.
      memories_given T R globals d m.memories h.memories hd (λ fe e se he ee.
      globals_given T R exports e m.globals h.globals he (λ ff f sf hf ef.
      exports_given T R start f m.exports h.exports hf (λ fg g sg hg eg.
      start_given T R elements g m.start h.start hg (λ i hi ei.
      elements_given T R fills i m.elements h.elements hi (λ fj j sj hj ej.
      fills_given T R T j m.fills h.fills hj (λ fk k sk hk ek.
      stops (λ g s. fields_go source bounds g s) (λ g. next_field source bounds g) R k (λ s w. goes_on k T hk s w) (record {
        imports = fb;
        exports = fg;
        fills = fk;
        is =
            let said = fields_nest fa fb fc fd fe ff fg (start_fields m.start) fj fk in
            let all : k.fields ≡ (((((((((fa ++ fb) ++ fc) ++ fd) ++ fe) ++ ff) ++ fg) ++ start_fields m.start) ++ fj) ++ fk) = rw (ek, ej, ei, eg, ef, ee, ed, ec, eb, ea) refl in
            let maps : (fa ++ (fb ++ (fc ++ (fd ++ (fe ++ ff))))) ++ (fg ++ (start_fields m.start ++ (fj ++ fk))) ≡ parts_fields m fb ++ uses_fields m fg fk =
            rw (said_map sig_field fa m.sigs sa, said_map func_field fc m.funcs sc, said_map table_field fd m.tables sd, said_map memory_field fe m.memories se, said_map global_field ff m.globals sf, said_map element_field fj m.elements sj) refl in
            all ∙ said ∙ maps;
        imported = sb;
        exported = sg;
        filled = sk;
      }))))))))))))

  -- ---- a file

  file_given : (m : Module) → Sayable bounds m → Gives source (file_within source bounds).spelled (module_pieces m) (λ fields. Says source fields m) []
  unfolding file_within file_by all_fields
  file_given m h =
      let P = parts_pieces m ++ (uses_pieces m ++ right ∷ []) in
      chosen (begins source word.Module) (λ b. (file_by source bounds b).spelled) true (λ s w. starts_module P s w)
      (past opened (λ begin. past (worded word.Module) (λ head. known (no_id (no_name m)) (both (all_said m h) (λ last r. past closed (λ close. past at_end (λ done. gives (λ fields. Says source fields m) r)))))))

-- The tokens of a module as it is written are the fields that are said of it.
pub fields_said : (bounds : Bounds) (source : List ℕ) (tokens : List Token) (m : Module) → Sayable bounds m → Shows source tokens (module_pieces m) → (fields : List Field) × (file_within source bounds).spelled tokens fields [] × Says source fields m
fields_said bounds source tokens m h shows =
    let x = (file_given bounds m h).takes tokens shows in
    (x.0, subst (λ (t : List Token). (file_within source bounds).spelled tokens x.0 t) (is_end x.1 x.4) x.2, x.3)
