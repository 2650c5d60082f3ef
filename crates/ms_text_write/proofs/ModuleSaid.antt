-- The fields that a module is written as are the module.
use Rattle.std.proofs.Common.{◌≡◌, ℕ, zero, suc, Bool, true, false, List, [], ◌∷◌, ◌++◌, replicate, refl, sym, ap, subst, ◌∙◌, append_assoc}
use Rattle.std.specs.Prelude.{map, slice_get, Option, Some, None, if◌then◌else◌}
use Rattle.std.proofs.lemmas.List.{append-nil}
use Rattle.ms_types.specs.declared.types.FuncType.{FuncType}
use Rattle.ms_types.specs.declared.types.Limits.{Limits}
use Rattle.ms_types.specs.declared.types.ValType.{ValType}
use Rattle.ms_module.specs.declared.instr.Instr.{Instr}
use Rattle.ms_module.specs.declared.module.Module.{Module}
use Rattle.ms_module.specs.declared.module.Import.{Import}
use Rattle.ms_module.specs.declared.module.ImportDesc.{ImportDesc}
use Rattle.ms_module.specs.declared.module.ImportDesc.TheVariants as imported
use Rattle.ms_module.specs.declared.module.Func.{Func}
use Rattle.ms_module.specs.declared.module.Global.{Global}
use Rattle.ms_module.specs.declared.module.Export.{Export}
use Rattle.ms_module.specs.declared.module.ExportDesc.{ExportDesc}
use Rattle.ms_module.specs.declared.module.ExportDesc.TheVariants as exported
use Rattle.ms_module.specs.declared.module.Element.{Element}
use Rattle.ms_module.specs.declared.module.Fill.{Fill}
use Rattle.ms_module.specs.Building.{IsNumbered}
use Rattle.ms_text_lex.specs.declared.token.Token.{Token}
use Rattle.ms_text_lex.specs.Values.{value_of}
use Rattle.ms_flat.specs.Flat.{flat}
use Rattle.ms_text_grammar.specs.declared.surface.Entry.{Entry}
use Rattle.ms_text_grammar.specs.declared.surface.ExternKind.{ExternKind}
use Rattle.ms_text_grammar.specs.declared.surface.ExternKind.TheVariants as kind
use Rattle.ms_text_grammar.specs.declared.surface.Field.{Field}
use Rattle.ms_text_grammar.specs.declared.surface.Field.TheVariants as field
use Rattle.ms_text_grammar.specs.declared.surface.ImportNames.{ImportNames}
use Rattle.ms_text_grammar.specs.declared.surface.Index.TheVariants.{Number}
use Rattle.ms_text_grammar.specs.declared.surface.Item.{Item}
use Rattle.ms_text_grammar.specs.declared.surface.Item.TheVariants as item
use Rattle.ms_text_grammar.specs.declared.surface.TypeUse.{TypeUse}
use Rattle.ms_text_grammar.specs.Identifiers.{With, each, joined, param_ids, repeats, resolved, right}
use Rattle.ms_text_grammar.specs.FieldKinds.{Counts, counted, entries_in, entry_ids, kind_of, no_entries, of_kind, same_kind, type_ids, types_in}
use Rattle.ms_text_grammar.specs.TypeUses.{Scope, all_uses, field_types, item_uses, local_ids, params_len, scope_of, with_uses}
use Rattle.ms_text_grammar.specs.ResolvedBodies.{code_of}
use Rattle.ms_text_grammar.specs.ResolvedParts.{defined, desc_of, element_of, elements_from, export_desc, exports_from, fill_of, fills_from, func_of, funcs_of, global_of, globals_of, import_of, imports_of, inline_element, inline_fill, sizes_of, starts_in}
use Rattle.ms_text_grammar.specs.Elaborating.{module_of, repeated}
use Rattle.ms_text_grammar.specs.Shapes.{field_type, param_types}
use Rattle.ms_text_grammar.specs.Entries.{entry}
use Rattle.ms_text_write.proofs.Said.{Says, SaysEach, SaysExport, SaysFill, SaysImport, body_said, element_field, export_field, func_field, global_field, import_item, memory_field, more, none, params_of, parts_fields, sig_field, start_fields, table_field, type_field_of, use_of, uses_fields}
use Rattle.ms_text_write.proofs.BodySaid.{code_is, numbers_are, with_items_uses}

-- ---- bodies

abbrev pub EachOf : {A : Type 0} → (A → Type 0) → List A → Type 0
EachOf P [] = Unit {0}
EachOf P (x ∷ xs) = P x × EachOf P xs

-- all bodies, initialisers and offsets of a module are numbered sequences
pub record Bodies (m : Module) : Type 0 where
  pub funcs : EachOf (λ f. IsNumbered f.body) m.funcs
  pub globals : EachOf (λ g. IsNumbered g.init) m.globals
  pub elements : EachOf (λ e. IsNumbered e.offset) m.elements
  pub fills : EachOf (λ f. IsNumbered f.offset) m.fills

-- ---- no identifiers

abbrev Unnamed : List (Option Token) → Type 0
Unnamed [] = Unit {0}
Unnamed (id ∷ ids) = (id ≡ None) × Unnamed ids

unnamed_append : (xs ys : List (Option Token)) → Unnamed xs → Unnamed ys → Unnamed (xs ++ ys)
unnamed_append [] ys h g = g
unnamed_append (x ∷ xs) ys h g = (h.0, unnamed_append xs ys h.1 g)

unnamed_many : (n : ℕ) → Unnamed (replicate n None)
unnamed_many zero = tt
unnamed_many (suc n) = (refl, unnamed_many n)

no_repeats : (source : List ℕ) (before ids : List (Option Token)) → Unnamed ids → repeats source before ids ≡ []
no_repeats source before [] h = refl
no_repeats source before (id ∷ ids) h = rw (h.0) (no_repeats source (before ++ None ∷ []) ids h.1)

unnamed_params : (tys : List ValType) → Unnamed (param_ids (params_of tys))
unnamed_params [] = tt
unnamed_params (ty ∷ tys) = (refl, unnamed_params tys)

-- ---- types

params_are : (tys : List ValType) → param_types (params_of tys) ≡ tys
params_are [] = refl
params_are (ty ∷ tys) = ap (λ (l : List ValType). ty ∷ l) (params_are tys)

type_is : (ft : FuncType) → field_type (type_field_of ft) ≡ ft
type_is ft = rw (params_are ft.params) refl

-- ---- items of fields

func_made : (f : Func) (tys : List ValType) (ns : List ℕ) (code : With (List (List Instr))) → tys ≡ f.locals → ns ≡ [] → code ≡ right f.body
    → record { value = record { sig = f.sig; locals = tys; body = code.value }; wrong = [] ++ ns ++ code.wrong } ≡ right f
func_made f tys ns code t n c = rw (t, n, c) refl

global_made : (g : Global) (code : With (List (List Instr))) → code ≡ right g.init → record { value = record { ty = g.ty; init = code.value }; wrong = code.wrong } ≡ right g
global_made g code c = rw c refl

element_made : (e : Element) (code : With (List (List Instr))) (ns : With (List ℕ)) → code ≡ right e.offset → ns ≡ right e.funcs
    → record { value = record { table = e.table; offset = code.value; funcs = ns.value }; wrong = [] ++ code.wrong ++ ns.wrong } ≡ right e
element_made e code ns c n = rw (c, n) refl

fill_made : (f : Fill) (code : With (List (List Instr))) (bs : List ℕ) → code ≡ right f.offset → bs ≡ f.bytes
    → record { value = record { memory = f.memory; offset = code.value; bytes = bs }; wrong = [] ++ code.wrong } ≡ right f
fill_made f code bs c b = rw (c, b) refl

module _ (source : List ℕ) (scope : Scope) where
  func_is : (f : Func) → IsNumbered f.body → func_of source scope (use_of f.sig) (params_of f.locals) (body_said f.body) ≡ right f
  func_is f h =
      let ids = local_ids scope f.sig (use_of f.sig) (params_of f.locals) in
      let many = params_len (slice_get scope.sigs f.sig) in
      let apart = no_repeats source [] ids (unnamed_append (replicate many None) (param_ids (params_of f.locals)) (unnamed_many many) (unnamed_params f.locals)) in
      func_made f (param_types (params_of f.locals)) (repeats source [] ids) (code_of source scope ids (body_said f.body)) (params_are f.locals) apart (code_is source scope ids f.body h)

  global_is : (g : Global) → IsNumbered g.init → global_of source scope g.ty (body_said g.init) ≡ right g
  global_is g h = global_made g (code_of source scope [] (body_said g.init)) (code_is source scope [] g.init h)

  element_is : (e : Element) → IsNumbered e.offset → element_of source scope (Number e.table) (body_said e.offset) (map Number e.funcs) ≡ right e
  element_is e h =
      element_made e (code_of source scope [] (body_said e.offset)) (each (resolved source scope.funcs) (map Number e.funcs)) (code_is source scope [] e.offset h) (numbers_are source scope.funcs e.funcs)

  fill_is : (f : Fill) (t : Token) → value_of source t ≡ f.bytes → IsNumbered f.offset → fill_of source scope (Number f.memory) (body_said f.offset) (t ∷ []) ≡ right f
  fill_is f t e h = fill_made f (code_of source scope [] (body_said f.offset)) (value_of source t ++ []) (code_is source scope [] f.offset h) (append-nil (value_of source t) ∙ e)

  desc_is : (d : ImportDesc) → desc_of source scope (import_item d) ≡ right d
  desc_is (imported.Func x) = refl
  desc_is (imported.Table l) = refl
  desc_is (imported.Memory l) = refl
  desc_is (imported.Global g) = refl

  import_is : (i : Import) (names : ImportNames) → value_of source names.«module» ≡ i.«module» → value_of source names.name ≡ i.name → import_of source scope names (import_item i.desc) ≡ right i
  import_is i names from known_as = rw (from, known_as, desc_is i.desc) refl

-- ---- fields one after the other

-- these fields are these parts of a module
record Made (source : List ℕ) (scope : Scope) (fs : List Field) (m : Module) : Type 0 where
  types : field_types (types_in fs) ≡ m.sigs
  uses : (tys : List FuncType) → with_uses (all_uses fs) tys ≡ tys
  type_names : Unnamed (type_ids (types_in fs))
  names : (k : ExternKind) → Unnamed (entry_ids (of_kind k (entries_in fs)))
  imports : imports_of source scope (entries_in fs) ≡ right m.imports
  funcs : funcs_of source scope (defined (entries_in fs)) ≡ right m.funcs
  tables : sizes_of source (of_kind kind.Table (defined (entries_in fs))) ≡ m.tables
  memories : sizes_of source (of_kind kind.Memory (defined (entries_in fs))) ≡ m.memories
  globals : globals_of source scope (defined (entries_in fs)) ≡ right m.globals
  exports : (n : Counts) → exports_from source scope n fs ≡ right m.exports
  start : starts_in source scope fs ≡ right m.start
  elements : (n : Counts) → elements_from source scope n fs ≡ right m.elements
  fills : (n : Counts) → fills_from source scope n fs ≡ right m.fills

abbrev nothing : Module
nothing = record { sigs = []; imports = []; funcs = []; tables = []; memories = []; globals = []; exports = []; elements = []; fills = []; start = None }

joined_is : {A : Type 0} (a : With A) (rest : With (List A)) (x : A) (xs : List A) → a ≡ right x → rest ≡ right xs → joined a rest ≡ right (x ∷ xs)
joined_is a rest x xs e g = rw (e, g) refl

names_more : (k : ExternKind) (e : Entry) (es : List Entry) → e.id ≡ None → Unnamed (entry_ids (of_kind k es)) → Unnamed (entry_ids (of_kind k (e ∷ es)))
names_more k e es n h = go (same_kind (kind_of e.item) k) where
  go : (b : Bool) → Unnamed (entry_ids (if b then e ∷ of_kind k es else of_kind k es))
  go true = (n, h)
  go false = h

body_uses : (ss : List (List Instr)) (us : List TypeUse) → ((tys : List FuncType) → with_uses us tys ≡ tys) → (tys : List FuncType) → with_uses ((body_said ss).uses ++ us) tys ≡ tys
unfolding body_said
body_uses ss us h tys = with_items_uses (flat ss) us tys ∙ h tys

-- an entry's item has no elements or data of its own
abbrev IsBare : Item → Type 0
IsBare (item.Elements funcs) = ⊥
IsBare (item.Data strings) = ⊥
IsBare _ = Unit {0}

import_bare : (d : ImportDesc) → IsBare (import_item d)
import_bare (imported.Func x) = tt
import_bare (imported.Table l) = tt
import_bare (imported.Memory l) = tt
import_bare (imported.Global g) = tt

import_uses : (d : ImportDesc) (us : List TypeUse) (tys : List FuncType) → with_uses (item_uses (import_item d) ++ us) tys ≡ with_uses us tys
import_uses (imported.Func x) us tys = refl
import_uses (imported.Table l) us tys = refl
import_uses (imported.Memory l) us tys = refl
import_uses (imported.Global g) us tys = refl

module _ (source : List ℕ) (scope : Scope) where
  no_element : (w : Item) → IsBare w → (n : ℕ) (rest : With (List Element)) → inline_element source scope n w rest ≡ rest
  no_element (item.Elements funcs) bare n rest = absurd bare
  no_element _ bare n rest = refl

  no_fill : (w : Item) → IsBare w → (n : ℕ) (rest : With (List Fill)) → inline_fill source scope n w rest ≡ rest
  no_fill (item.Data strings) bare n rest = absurd bare
  no_fill _ bare n rest = refl

module _ (source : List ℕ) (scope : Scope) (fs : List Field) (m : Module) (h : Made source scope fs m) where
  -- an entry without identifier, exports, elements and data adds to none of these
  record Adds (f : Field) (es : List Entry) : Type 0 where
    names : (k : ExternKind) → Unnamed (entry_ids (of_kind k es))
    exports : (n : Counts) → exports_from source scope n (f ∷ fs) ≡ right m.exports
    elements : (n : Counts) → elements_from source scope n (f ∷ fs) ≡ right m.elements
    fills : (n : Counts) → fills_from source scope n (f ∷ fs) ≡ right m.fills

  adds : (names : Option ImportNames) (w : Item) → IsBare w → Adds (field.Entry (entry None [] names w)) (entry None [] names w ∷ entries_in fs)
  adds names w bare = record {
    names = λ k. names_more k (entry None [] names w) (entries_in fs) refl (h.names k);
    exports = λ n. h.exports (counted n (kind_of w));
    elements = λ n. no_element source scope w bare n.tables (elements_from source scope (counted n (kind_of w)) fs) ∙ h.elements (counted n (kind_of w));
    fills = λ n. no_fill source scope w bare n.memories (fills_from source scope (counted n (kind_of w)) fs) ∙ h.fills (counted n (kind_of w));
  }

  sig_more : (ft : FuncType) → Made source scope (sig_field ft ∷ fs) (record m { sigs = ft ∷ m.sigs })
  sig_more ft =
      let types : field_type (type_field_of ft) ∷ field_types (types_in fs) ≡ ft ∷ m.sigs = rw (type_is ft, h.types) refl in
      let names : Unnamed (type_ids (types_in (sig_field ft ∷ fs))) = (refl, h.type_names) in
      assumption (types, names)

  import_more : (f : Field) (i : Import) → SaysImport source f i → Made source scope (f ∷ fs) (record m { imports = i ∷ m.imports })
  import_more f i says =
      let w = import_item i.desc in
      let e = entry None [] (Some says.names) w in
      let uses : (tys : List FuncType) → with_uses (item_uses w ++ all_uses fs) tys ≡ tys = λ tys. import_uses i.desc (all_uses fs) tys ∙ h.uses tys in
      let is : imports_of source scope (e ∷ entries_in fs) ≡ right (i ∷ m.imports) =
      joined_is (import_of source scope says.names w) (imports_of source scope (entries_in fs)) i m.imports (import_is source scope i says.names says.from says.known_as) h.imports in
      let others = adds (Some says.names) w (import_bare i.desc) in
      let made : Made source scope (field.Entry e ∷ fs) (record m { imports = i ∷ m.imports }) = assumption (uses, is, others) in
      subst (λ (g : Field). Made source scope (g ∷ fs) (record m { imports = i ∷ m.imports })) (sym says.is) made

  func_more : (f : Func) → IsNumbered f.body → Made source scope (func_field f ∷ fs) (record m { funcs = f ∷ m.funcs })
  func_more f b =
      let w = item.Func (use_of f.sig) (params_of f.locals) (body_said f.body) in
      let uses : (tys : List FuncType) → with_uses (all_uses (func_field f ∷ fs)) tys ≡ tys = body_uses f.body (all_uses fs) h.uses in
      let is : funcs_of source scope (entry None [] None w ∷ defined (entries_in fs)) ≡ right (f ∷ m.funcs) =
      joined_is (func_of source scope (use_of f.sig) (params_of f.locals) (body_said f.body)) (funcs_of source scope (defined (entries_in fs))) f m.funcs (func_is source scope f b) h.funcs in
      let others = adds None w tt in
      assumption (uses, is, others)

  table_more : (l : Limits) → Made source scope (table_field l ∷ fs) (record m { tables = l ∷ m.tables })
  table_more l =
      let is : l ∷ sizes_of source (of_kind kind.Table (defined (entries_in fs))) ≡ l ∷ m.tables = ap (λ (ls : List Limits). l ∷ ls) h.tables in
      let others = adds None (item.Table l) tt in
      assumption (is, others)

  memory_more : (l : Limits) → Made source scope (memory_field l ∷ fs) (record m { memories = l ∷ m.memories })
  memory_more l =
      let is : l ∷ sizes_of source (of_kind kind.Memory (defined (entries_in fs))) ≡ l ∷ m.memories = ap (λ (ls : List Limits). l ∷ ls) h.memories in
      let others = adds None (item.Memory l) tt in
      assumption (is, others)

  global_more : (g : Global) → IsNumbered g.init → Made source scope (global_field g ∷ fs) (record m { globals = g ∷ m.globals })
  global_more g b =
      let w = item.Global g.ty (body_said g.init) in
      let uses : (tys : List FuncType) → with_uses (all_uses (global_field g ∷ fs)) tys ≡ tys = body_uses g.init (all_uses fs) h.uses in
      let is : globals_of source scope (entry None [] None w ∷ defined (entries_in fs)) ≡ right (g ∷ m.globals) =
      joined_is (global_of source scope g.ty (body_said g.init)) (globals_of source scope (defined (entries_in fs))) g m.globals (global_is source scope g b) h.globals in
      let others = adds None w tt in
      assumption (uses, is, others)

  export_by : (t : Token) (k : ExternKind) (x : ℕ) (name : List ℕ) → value_of source t ≡ name → Made source scope (field.Export t k (Number x) ∷ fs) (record m { exports = record { name = name; desc = export_desc k x } ∷ m.exports })
  export_by t k x name is =
      let exports : (n : Counts) → exports_from source scope n (field.Export t k (Number x) ∷ fs) ≡ right (record { name = name; desc = export_desc k x } ∷ m.exports) = λ n. rw (is, h.exports n) refl in
      assumption exports

  export_more : (f : Field) (e : Export) → SaysExport source f e → Made source scope (f ∷ fs) (record m { exports = e ∷ m.exports })
  export_more f e says = subst (λ (g : Field). Made source scope (g ∷ fs) (record m { exports = e ∷ m.exports })) (sym says.is) (go e.desc) where
    go : (d : ExportDesc) → Made source scope (export_field says.token d ∷ fs) (record m { exports = record { name = e.name; desc = d } ∷ m.exports })
    go (exported.Func x) = export_by says.token kind.Func x e.name says.known_as
    go (exported.Table x) = export_by says.token kind.Table x e.name says.known_as
    go (exported.Memory x) = export_by says.token kind.Memory x e.name says.known_as
    go (exported.Global x) = export_by says.token kind.Global x e.name says.known_as

  start_more : (x : ℕ) → Made source scope (field.Start (Number x) ∷ fs) (record m { start = Some x })
  start_more x = let start : starts_in source scope (field.Start (Number x) ∷ fs) ≡ right (Some x) = refl in assumption start

  element_more : (e : Element) → IsNumbered e.offset → Made source scope (element_field e ∷ fs) (record m { elements = e ∷ m.elements })
  element_more e b =
      let uses : (tys : List FuncType) → with_uses (all_uses (element_field e ∷ fs)) tys ≡ tys = body_uses e.offset (all_uses fs) h.uses in
      let elements : (n : Counts) → elements_from source scope n (element_field e ∷ fs) ≡ right (e ∷ m.elements) =
      λ n. joined_is (element_of source scope (Number e.table) (body_said e.offset) (map Number e.funcs)) (elements_from source scope n fs) e m.elements (element_is source scope e b) (h.elements n) in
      assumption (uses, elements)

  fill_more : (f : Field) (x : Fill) → SaysFill source f x → IsNumbered x.offset → Made source scope (f ∷ fs) (record m { fills = x ∷ m.fills })
  fill_more f x says b =
      let d = field.Data (Number x.memory) (body_said x.offset) (says.token ∷ []) in
      let uses : (tys : List FuncType) → with_uses (all_uses (d ∷ fs)) tys ≡ tys = body_uses x.offset (all_uses fs) h.uses in
      let fills : (n : Counts) → fills_from source scope n (d ∷ fs) ≡ right (x ∷ m.fills) =
      λ n. joined_is (fill_of source scope (Number x.memory) (body_said x.offset) (says.token ∷ [])) (fills_from source scope n fs) x m.fills (fill_is source scope x says.token says.bytes b) (h.fills n) in
      let made : Made source scope (d ∷ fs) (record m { fills = x ∷ m.fills }) = assumption (uses, fills) in
      subst (λ (g : Field). Made source scope (g ∷ fs) (record m { fills = x ∷ m.fills })) (sym says.is) made

-- ---- all fields

module _ (source : List ℕ) (scope : Scope) {A : Type 0} (M : List A → Module) where
  -- fields that stand for items, before others
  each_of : (field_of : A → Field) (P : A → Type 0) → ((x : A) (xs : List A) (fs : List Field) → P x → Made source scope fs (M xs) → Made source scope (field_of x ∷ fs) (M (x ∷ xs)))
      → (xs : List A) (rest : List Field) → EachOf P xs → Made source scope rest (M []) → Made source scope (map field_of xs ++ rest) (M xs)
  each_of field_of P step [] rest h made = made
  each_of field_of P step (x ∷ xs) rest h made = step x xs (map field_of xs ++ rest) h.0 (each_of field_of P step xs rest h.1 made)

  -- fields that say items, before others
  each_said : (Said : Field → A → Type 0) (P : A → Type 0) → ((f : Field) (x : A) (xs : List A) (fs : List Field) → Said f x → P x → Made source scope fs (M xs) → Made source scope (f ∷ fs) (M (x ∷ xs)))
      → (fields : List Field) (xs : List A) → SaysEach Said fields xs → (rest : List Field) → EachOf P xs → Made source scope rest (M []) → Made source scope (fields ++ rest) (M xs)
  each_said Said P step _ _ none rest h made = made
  each_said Said P step _ _ (more f fs x xs says each) rest h made = step f x xs (fs ++ rest) says h.0 (each_said Said P step fs xs each rest h.1 made)

any_of : {A : Type 0} (xs : List A) → EachOf (λ x. Unit {0}) xs
any_of [] = tt
any_of (x ∷ xs) = (tt, any_of xs)

regroup : (a b c d e f u : List Field) → (a ++ (b ++ (c ++ (d ++ (e ++ f))))) ++ u ≡ a ++ (b ++ (c ++ (d ++ (e ++ (f ++ u)))))
regroup a b c d e f u = simp append_assoc

module _ (source : List ℕ) (scope : Scope) (m : Module) (h : Bodies m) where
  none_made : Made source scope [] nothing
  none_made = record {
    types = refl;
    uses = λ tys. refl;
    type_names = tt;
    names = λ k. tt;
    imports = refl;
    funcs = refl;
    tables = refl;
    memories = refl;
    globals = refl;
    exports = λ n. refl;
    start = refl;
    elements = λ n. refl;
    fills = λ n. refl;
  }

  start_made : (o : Option ℕ) (fs : List Field) (n : Module) → Made source scope fs (record n { start = None }) → Made source scope (start_fields o ++ fs) (record n { start = o })
  start_made None fs n made = made
  start_made (Some x) fs n made = start_more source scope fs (record n { start = None }) made x

  uses_made : (exports fills : List Field) → SaysEach (SaysExport source) exports m.exports → SaysEach (SaysFill source) fills m.fills
      → Made source scope (uses_fields m exports fills) (record nothing { exports = m.exports; start = m.start; elements = m.elements; fills = m.fills })
  uses_made exports fills said filled =
      let with_fills : Made source scope (fills ++ []) (record nothing { fills = m.fills }) =
      each_said source scope (λ xs. record nothing { fills = xs }) (SaysFill source) (λ x. IsNumbered x.offset)
      (λ f x xs fs says b made. fill_more source scope fs (record nothing { fills = xs }) made f x says b) fills m.fills filled [] h.fills none_made in
      let with_elements =
      each_of source scope (λ xs. record nothing { elements = xs; fills = m.fills }) element_field (λ e. IsNumbered e.offset)
      (λ e xs fs b made. element_more source scope fs (record nothing { elements = xs; fills = m.fills }) made e b) m.elements fills h.elements
      (subst (λ (fs : List Field). Made source scope fs (record nothing { fills = m.fills })) (append-nil fills) with_fills) in
      let with_start = start_made m.start (map element_field m.elements ++ fills) (record nothing { elements = m.elements; fills = m.fills }) with_elements in
      each_said source scope (λ xs. record nothing { exports = xs; start = m.start; elements = m.elements; fills = m.fills }) (SaysExport source) (λ e. Unit {0})
      (λ f e xs fs says b made. export_more source scope fs (record nothing { exports = xs; start = m.start; elements = m.elements; fills = m.fills }) made f e says) exports m.exports said
      (start_fields m.start ++ (map element_field m.elements ++ fills)) (any_of m.exports) with_start

  all_made : (imports exports fills : List Field) → SaysEach (SaysImport source) imports m.imports → SaysEach (SaysExport source) exports m.exports → SaysEach (SaysFill source) fills m.fills
      → Made source scope (parts_fields m imports ++ uses_fields m exports fills) m
  all_made imports exports fills imported said filled =
      let uses = uses_fields m exports fills in
      let base = record m { sigs = []; imports = []; funcs = []; tables = []; memories = [] } in
      let with_globals =
      each_of source scope (λ xs. record base { globals = xs }) global_field (λ g. IsNumbered g.init) (λ g xs fs b made. global_more source scope fs (record base { globals = xs }) made g b) m.globals uses h.globals
      (uses_made exports fills said filled) in
      let with_memories =
      each_of source scope (λ xs. record base { memories = xs }) memory_field (λ l. Unit {0}) (λ l xs fs b made. memory_more source scope fs (record base { memories = xs }) made l) m.memories
      (map global_field m.globals ++ uses) (any_of m.memories) with_globals in
      let with_tables =
      each_of source scope (λ xs. record base { tables = xs; memories = m.memories }) table_field (λ l. Unit {0})
      (λ l xs fs b made. table_more source scope fs (record base { tables = xs; memories = m.memories }) made l) m.tables
      (map memory_field m.memories ++ (map global_field m.globals ++ uses)) (any_of m.tables) with_memories in
      let with_funcs =
      each_of source scope (λ xs. record m { sigs = []; imports = []; funcs = xs }) func_field (λ f. IsNumbered f.body)
      (λ f xs fs b made. func_more source scope fs (record m { sigs = []; imports = []; funcs = xs }) made f b) m.funcs
      (map table_field m.tables ++ (map memory_field m.memories ++ (map global_field m.globals ++ uses))) h.funcs with_tables in
      let with_imports =
      each_said source scope (λ xs. record m { sigs = []; imports = xs }) (SaysImport source) (λ i. Unit {0})
      (λ f i xs fs says b made. import_more source scope fs (record m { sigs = []; imports = xs }) made f i says) imports m.imports imported
      (map func_field m.funcs ++ (map table_field m.tables ++ (map memory_field m.memories ++ (map global_field m.globals ++ uses)))) (any_of m.imports) with_funcs in
      let with_sigs =
      each_of source scope (λ xs. record m { sigs = xs }) sig_field (λ ft. Unit {0}) (λ ft xs fs b made. sig_more source scope fs (record m { sigs = xs }) made ft) m.sigs
      (imports ++ (map func_field m.funcs ++ (map table_field m.tables ++ (map memory_field m.memories ++ (map global_field m.globals ++ uses))))) (any_of m.sigs) with_imports in
      subst (λ (fs : List Field). Made source scope fs m)
      (sym (regroup (map sig_field m.sigs) imports (map func_field m.funcs) (map table_field m.tables) (map memory_field m.memories) (map global_field m.globals) uses)) with_sigs

-- what has these parts is the module
parts_are : (m : Module) (repeats : List ℕ) (sigs : List FuncType) (imports : With (List Import)) (funcs : With (List Func)) (tables memories : List Limits) (globals : With (List Global))
    (exports : With (List Export)) (start : With (Option ℕ)) (elements : With (List Element)) (fills : With (List Fill))
    → repeats ≡ [] → sigs ≡ m.sigs → imports ≡ right m.imports → funcs ≡ right m.funcs → tables ≡ m.tables → memories ≡ m.memories → globals ≡ right m.globals → exports ≡ right m.exports
    → start ≡ right m.start → elements ≡ right m.elements → fills ≡ right m.fills
    → (record {
      sigs = sigs;
      imports = imports.value;
      funcs = funcs.value;
      tables = tables;
      memories = memories;
      globals = globals.value;
      exports = exports.value;
      elements = elements.value;
      fills = fills.value;
      start = start.value;
    }
    ≡ m)
    × (repeats ++ imports.wrong ++ funcs.wrong ++ globals.wrong ++ exports.wrong ++ start.wrong ++ elements.wrong ++ fills.wrong ≡ [])
parts_are m repeats sigs imports funcs tables memories globals exports start elements fills r s i f t n g x o e d = rw (r, s, i, f, t, n, g, x, o, e, d) (refl, refl)

none_repeated : (source : List ℕ) (scope : Scope) → Unnamed scope.types → Unnamed scope.funcs → Unnamed scope.tables → Unnamed scope.memories → Unnamed scope.globals → repeated source scope ≡ []
none_repeated source scope y f t n g =
    rw (no_repeats source [] scope.types y, no_repeats source [] scope.funcs f, no_repeats source [] scope.tables t, no_repeats source [] scope.memories n, no_repeats source [] scope.globals g) refl

-- the fields of a module stand for it, and no identifier in them is wrong
pub module_said : (source : List ℕ) (fields : List Field) (m : Module) → Bodies m → Says source fields m → ((module_of source fields).value ≡ m) × ((module_of source fields).wrong ≡ [])
unfolding module_of
module_said source fields m h says =
    let scope = scope_of fields in
    let made : Made source scope fields m =
    subst (λ (fs : List Field). Made source scope fs m) (sym says.is) (all_made source scope m h says.imports says.exports says.fills says.imported says.exported says.filled) in
    let apart = none_repeated source scope made.type_names (made.names kind.Func) (made.names kind.Table) (made.names kind.Memory) (made.names kind.Global) in
    parts_are m (repeated source scope) scope.sigs (imports_of source scope (entries_in fields)) (funcs_of source scope (defined (entries_in fields)))
    (sizes_of source (of_kind kind.Table (defined (entries_in fields)))) (sizes_of source (of_kind kind.Memory (defined (entries_in fields)))) (globals_of source scope (defined (entries_in fields)))
    (exports_from source scope no_entries fields) (starts_in source scope fields) (elements_from source scope no_entries fields) (fills_from source scope no_entries fields) apart
    (made.uses (field_types (types_in fields)) ∙ made.types) made.imports made.funcs made.tables made.memories made.globals (made.exports no_entries) made.start (made.elements no_entries) (made.fills no_entries)
