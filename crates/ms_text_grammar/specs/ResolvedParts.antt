-- The parts of a module, each in the order of the text (WebAssembly 1.0, 6.6.4 to 6.6.12); inline exports, elements and data are
-- fields of their own.
use Rattle.std.specs.Prelude.{ℕ, ◌+◌, ◌-◌, ◌/◌, pos, Bool, true, false, List, [], ◌∷◌, ◌++◌, Option, Some, None, length, if◌then◌else◌}
use Rattle.ms_types.specs.Page.{page}
use Rattle.ms_types.specs.declared.types.GlobalType.{GlobalType}
use Rattle.ms_types.specs.declared.types.Limits.{Limits}
use Rattle.ms_module.specs.declared.instr.Instr.{Instr}
use Rattle.ms_module.specs.declared.instr.Instr.TheVariants as instr
use Rattle.ms_module.specs.declared.module.Import.{Import}
use Rattle.ms_module.specs.declared.module.ImportDesc.{ImportDesc}
use Rattle.ms_module.specs.declared.module.ImportDesc.TheVariants as imported
use Rattle.ms_module.specs.declared.module.Func.{Func}
use Rattle.ms_module.specs.declared.module.Global.{Global}
use Rattle.ms_module.specs.declared.module.Export.{Export}
use Rattle.ms_module.specs.declared.module.ExportDesc.{ExportDesc}
use Rattle.ms_module.specs.declared.module.ExportDesc.TheVariants as exported
use Rattle.ms_module.specs.declared.module.Element.{Element}
use Rattle.ms_module.specs.declared.module.Fill.{Fill}
use Rattle.ms_text_lex.specs.declared.token.Token.{Token}
use Rattle.ms_text_lex.specs.Values.{value_of}
use Rattle.ms_text_grammar.specs.declared.surface.Body.{Body}
use Rattle.ms_text_grammar.specs.declared.surface.Entry.{Entry}
use Rattle.ms_text_grammar.specs.declared.surface.ExternKind.{ExternKind}
use Rattle.ms_text_grammar.specs.declared.surface.ExternKind.TheVariants as kind
use Rattle.ms_text_grammar.specs.declared.surface.Field.{Field}
use Rattle.ms_text_grammar.specs.declared.surface.Field.TheVariants as field
use Rattle.ms_text_grammar.specs.declared.surface.ImportNames.{ImportNames}
use Rattle.ms_text_grammar.specs.declared.surface.Index.{Index}
use Rattle.ms_text_grammar.specs.declared.surface.Item.{Item}
use Rattle.ms_text_grammar.specs.declared.surface.Item.TheVariants as item
use Rattle.ms_text_grammar.specs.declared.surface.Param.{Param}
use Rattle.ms_text_grammar.specs.declared.surface.TypeUse.{TypeUse}
use Rattle.ms_text_grammar.specs.Shapes.{param_types}
use Rattle.ms_text_grammar.specs.Identifiers.{With, each, joined, mapped, param_ids, repeats, resolved, right}
use Rattle.ms_text_grammar.specs.FieldKinds.{Counts, count_of, counted, kind_of}
use Rattle.ms_text_grammar.specs.TypeUses.{Scope, ids_of, local_ids, use_index}
use Rattle.ms_text_grammar.specs.ResolvedBodies.{code_of}

abbrev pub exactly : ℕ → Limits
exactly n = record { min = n; max = Some n }

-- the pages of so many bytes
abbrev pub pages : ℕ → ℕ
pages n = (n + (page - 1)) / page

-- the constant 0, the offset of inline elements and data
abbrev pub at_zero : List (List Instr)
at_zero = (instr.I32Const (pos 0) ∷ []) ∷ []

abbrev pub is_defined : Option ImportNames → Bool
is_defined None = true
is_defined (Some names) = false

-- the entries that are not imported
abbrev pub defined : List Entry → List Entry
defined [] = []
defined (e ∷ es) = if is_defined e.import then e ∷ defined es else defined es

abbrev pub export_desc : ExternKind → ℕ → ExportDesc
export_desc kind.Func n = exported.Func n
export_desc kind.Table n = exported.Table n
export_desc kind.Memory n = exported.Memory n
export_desc kind.Global n = exported.Global n

module _ (source : List ℕ) where
  -- the bytes of strings, one behind the other
  abbrev pub text_values : List Token → List ℕ
  text_values [] = []
  text_values (t ∷ ts) = value_of source t ++ text_values ts

  -- the size of a table or a memory
  abbrev pub limits_of : Item → Limits
  limits_of (item.Table limits) = limits
  limits_of (item.Elements funcs) = exactly (length funcs)
  limits_of (item.Memory limits) = limits
  limits_of (item.Data strings) = exactly (pages (length (text_values strings)))
  limits_of _ = exactly 0

  abbrev pub sizes_of : List Entry → List Limits
  sizes_of [] = []
  sizes_of (e ∷ es) = limits_of e.item ∷ sizes_of es

  -- the exports of these names, all of one entry
  abbrev pub inline_exports : List Token → ExportDesc → List Export
  inline_exports [] desc = []
  inline_exports (name ∷ names) desc = record { name = value_of source name; desc = desc } ∷ inline_exports names desc

module _ (source : List ℕ) (scope : Scope) where
  -- what an imported entry asks for; the identifiers of a function's parameters are apart
  abbrev pub desc_of : Item → With ImportDesc
  desc_of (item.Func sig locals body) =
      let n = use_index source scope sig in
      record { value = imported.Func n.value; wrong = n.wrong ++ repeats source [] (param_ids sig.params) }
  desc_of (item.Table limits) = right (imported.Table limits)
  desc_of (item.Elements funcs) = right (imported.Table (limits_of source (item.Elements funcs)))
  desc_of (item.Memory limits) = right (imported.Memory limits)
  desc_of (item.Data strings) = right (imported.Memory (limits_of source (item.Data strings)))
  desc_of (item.Global ty init) = right (imported.Global ty)

  abbrev pub import_of : ImportNames → Item → With Import
  import_of names i = mapped (λ d. record { «module» = value_of source names.module; name = value_of source names.name; desc = d }) (desc_of i)

  abbrev pub import_by : Option ImportNames → Item → With (List Import) → With (List Import)
  import_by None i rest = rest
  import_by (Some names) i rest = joined (import_of names i) rest

  abbrev pub imports_of : List Entry → With (List Import)
  imports_of [] = right []
  imports_of (e ∷ es) = import_by e.import e.item (imports_of es)

  -- a defined function: the index of its type, the types of its locals, and its body
  abbrev pub func_of : TypeUse → List Param → Body → With Func
  func_of u locals body =
      let sig = use_index source scope u in
      let ids = local_ids scope sig.value u locals in
      let code = code_of source scope ids body in
      record {
        value = record { sig = sig.value; locals = param_types locals; body = code.value };
        wrong = sig.wrong ++ repeats source [] ids ++ code.wrong;
      }

  abbrev pub func_in : Item → With (List Func) → With (List Func)
  func_in (item.Func u locals body) rest = joined (func_of u locals body) rest
  func_in _ rest = rest

  abbrev pub funcs_of : List Entry → With (List Func)
  funcs_of [] = right []
  funcs_of (e ∷ es) = func_in e.item (funcs_of es)

  abbrev pub global_of : GlobalType → Body → With Global
  global_of ty init = mapped (λ code. record { ty = ty; init = code }) (code_of source scope [] init)

  abbrev pub global_in : Item → With (List Global) → With (List Global)
  global_in (item.Global ty init) rest = joined (global_of ty init) rest
  global_in _ rest = rest

  abbrev pub globals_of : List Entry → With (List Global)
  globals_of [] = right []
  globals_of (e ∷ es) = global_in e.item (globals_of es)

  abbrev pub export_of : Token → ExternKind → Index → With Export
  export_of name k index = mapped (λ n. record { name = value_of source name; desc = export_desc k n }) (resolved source (ids_of scope k) index)

  -- Exports, those of an entry at its place. The entry's index is the number of entries of its kind before it.
  abbrev pub exports_from : Counts → List Field → With (List Export)
  exports_from before [] = right []
  exports_from before (field.Export name k index ∷ fs) = joined (export_of name k index) (exports_from before fs)
  exports_from before (field.Entry e ∷ fs) =
      let k = kind_of e.item in
      let rest = exports_from (counted before k) fs in
      record { value = inline_exports source e.exports (export_desc k (count_of before k)) ++ rest.value; wrong = rest.wrong }
  exports_from before (_ ∷ fs) = exports_from before fs

  abbrev pub starts_in : List Field → With (Option ℕ)
  starts_in [] = right None
  starts_in (field.Start index ∷ fs) = mapped (λ n. Some n) (resolved source scope.funcs index)
  starts_in (_ ∷ fs) = starts_in fs

  abbrev pub element_of : Index → Body → List Index → With Element
  element_of table offset funcs =
      let n = resolved source scope.tables table in
      let code = code_of source scope [] offset in
      let ns = each (resolved source scope.funcs) funcs in
      record { value = record { table = n.value; offset = code.value; funcs = ns.value }; wrong = n.wrong ++ code.wrong ++ ns.wrong }

  -- one that the table of this index begins with
  abbrev pub element_at_zero : ℕ → List Index → With Element
  element_at_zero n funcs = mapped (λ ns. record { table = n; offset = at_zero; funcs = ns }) (each (resolved source scope.funcs) funcs)

  abbrev pub inline_element : ℕ → Item → With (List Element) → With (List Element)
  inline_element n (item.Elements funcs) rest = joined (element_at_zero n funcs) rest
  inline_element n _ rest = rest

  -- Elements, those that a table begins with at its place. The table's index is the number of tables before it.
  abbrev pub elements_from : Counts → List Field → With (List Element)
  elements_from before [] = right []
  elements_from before (field.Element table offset funcs ∷ fs) = joined (element_of table offset funcs) (elements_from before fs)
  elements_from before (field.Entry e ∷ fs) = inline_element before.tables e.item (elements_from (counted before (kind_of e.item)) fs)
  elements_from before (_ ∷ fs) = elements_from before fs

  -- data, the same
  abbrev pub fill_of : Index → Body → List Token → With Fill
  fill_of memory offset strings =
      let n = resolved source scope.memories memory in
      let code = code_of source scope [] offset in
      record { value = record { memory = n.value; offset = code.value; bytes = text_values source strings }; wrong = n.wrong ++ code.wrong }

  abbrev pub fill_at_zero : ℕ → List Token → Fill
  fill_at_zero n strings = record { memory = n; offset = at_zero; bytes = text_values source strings }

  abbrev pub inline_fill : ℕ → Item → With (List Fill) → With (List Fill)
  inline_fill n (item.Data strings) rest = joined (right (fill_at_zero n strings)) rest
  inline_fill n _ rest = rest

  abbrev pub fills_from : Counts → List Field → With (List Fill)
  fills_from before [] = right []
  fills_from before (field.Data memory offset strings ∷ fs) = joined (fill_of memory offset strings) (fills_from before fs)
  fills_from before (field.Entry e ∷ fs) = inline_fill before.memories e.item (fills_from (counted before (kind_of e.item)) fs)
  fills_from before (_ ∷ fs) = fills_from before fs
