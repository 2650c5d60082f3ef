-- The fields that a module is written as: each field as the grammar of texts gives it, with indices alone and one field after
-- the other in the order of the writer. Strings are tokens of the source, which stand for the bytes that were written.
use Rattle.std.specs.Prelude.{◌≡◌, ℕ, suc, List, [], ◌∷◌, ◌++◌, map, Option, Some, None}
use Rattle.ms_types.specs.declared.types.ValType.{ValType}
use Rattle.ms_types.specs.declared.types.FuncType.{FuncType}
use Rattle.ms_types.specs.declared.types.Limits.{Limits}
use Rattle.ms_module.specs.declared.instr.Instr.{Instr}
use Rattle.ms_module.specs.declared.instr.Instr.TheVariants as instr
use Rattle.ms_module.specs.declared.module.ImportDesc.{ImportDesc}
use Rattle.ms_module.specs.declared.module.ImportDesc.TheVariants as imported
use Rattle.ms_module.specs.declared.module.Import.{Import}
use Rattle.ms_module.specs.declared.module.Func.{Func}
use Rattle.ms_module.specs.declared.module.Global.{Global}
use Rattle.ms_module.specs.declared.module.ExportDesc.{ExportDesc}
use Rattle.ms_module.specs.declared.module.ExportDesc.TheVariants as exported
use Rattle.ms_module.specs.declared.module.Export.{Export}
use Rattle.ms_module.specs.declared.module.Element.{Element}
use Rattle.ms_module.specs.declared.module.Fill.{Fill}
use Rattle.ms_module.specs.declared.module.Module.{Module}
use Rattle.ms_text_lex.specs.declared.token.Token.{Token}
use Rattle.ms_text_lex.specs.Values.{value_of}
use Rattle.ms_text_grammar.specs.declared.surface.Body.{Body}
use Rattle.ms_text_grammar.specs.declared.surface.ExternKind.TheVariants as kind
use Rattle.ms_text_grammar.specs.declared.surface.Field.{Field}
use Rattle.ms_text_grammar.specs.declared.surface.Field.TheVariants as field
use Rattle.ms_text_grammar.specs.declared.surface.ImportNames.{ImportNames}
use Rattle.ms_text_grammar.specs.declared.surface.Index.TheVariants.{Number}
use Rattle.ms_text_grammar.specs.declared.surface.Item.{Item as Defined}
use Rattle.ms_text_grammar.specs.declared.surface.Item.TheVariants as defined
use Rattle.ms_text_grammar.specs.declared.surface.Op.{Op}
use Rattle.ms_text_grammar.specs.declared.surface.Op.TheVariants as op
use Rattle.ms_text_grammar.specs.declared.surface.Param.{Param}
use Rattle.ms_text_grammar.specs.declared.surface.Plain.{Plain as PlainOp}
use Rattle.ms_text_grammar.specs.declared.surface.Plain.TheVariants as plain
use Rattle.ms_text_grammar.specs.declared.surface.TypeField.{TypeField}
use Rattle.ms_text_grammar.specs.declared.surface.TypeUse.{TypeUse}
use Rattle.ms_text_grammar.specs.Types.{param}
use Rattle.ms_text_grammar.specs.Entries.{entry, no_body}
use Rattle.ms_flat.specs.Flat.{Item, Plain, Begin, Else, End, flat}

-- ---- types

abbrev pub params_of : List ValType → List Param
params_of tys = map (param None) tys

abbrev pub type_field_of : FuncType → TypeField
type_field_of ft = record { id = None; params = params_of ft.params; results = ft.results }

-- the type use that names this type, and writes none
abbrev pub use_of : ℕ → TypeUse
use_of x = record { sig = Some (Number x); params = []; results = [] }

-- ---- bodies

-- an instruction that is no block, behind so many `call_indirect`s of its body
abbrev pub plain_of : ℕ → Instr → PlainOp
plain_of uses (instr.BrTable targets) = plain.BrTable (map Number (targets.labels ++ targets.default ∷ []))
plain_of uses (instr.CallIndirect x) = plain.CallIndirect uses
plain_of uses i = plain.Instr i None

abbrev pub uses_behind : ℕ → Instr → ℕ
uses_behind uses (instr.CallIndirect x) = suc uses
uses_behind uses i = uses

abbrev pub ops_of : ℕ → List Item → List Op
ops_of uses [] = []
ops_of uses (Plain i ∷ xs) = op.Plain (plain_of uses i) ∷ ops_of (uses_behind uses i) xs
ops_of uses (Begin opening ty ∷ xs) = op.Begin opening None ty ∷ ops_of uses xs
ops_of uses (Else ∷ xs) = op.Else ∷ ops_of uses xs
ops_of uses (End ∷ xs) = op.End ∷ ops_of uses xs

-- the type uses of an instruction, and of items
abbrev pub uses_of_instr : Instr → List TypeUse
uses_of_instr (instr.CallIndirect x) = use_of x ∷ []
uses_of_instr i = []

abbrev pub uses_of_item : Item → List TypeUse
uses_of_item (Plain i) = uses_of_instr i
uses_of_item _ = []

abbrev pub uses_of_items : List Item → List TypeUse
uses_of_items [] = []
uses_of_items (x ∷ xs) = uses_of_item x ++ uses_of_items xs

unfoldable pub body_said : List (List Instr) → Body
body_said ss = record { uses = uses_of_items (flat ss); ops = ops_of 0 (flat ss) }

-- ---- fields that have no strings

abbrev pub sig_field : FuncType → Field
sig_field ft = field.Type (type_field_of ft)

-- a definition without identifier, exports and import
abbrev pub defined_field : Defined → Field
defined_field d = field.Entry (entry None [] None d)

abbrev pub func_field : Func → Field
func_field f = defined_field (defined.Func (use_of f.sig) (params_of f.locals) (body_said f.body))

abbrev pub table_field : Limits → Field
table_field l = defined_field (defined.Table l)

abbrev pub memory_field : Limits → Field
memory_field l = defined_field (defined.Memory l)

abbrev pub global_field : Global → Field
global_field g = defined_field (defined.Global g.ty (body_said g.init))

abbrev pub start_fields : Option ℕ → List Field
start_fields None = []
start_fields (Some x) = field.Start (Number x) ∷ []

abbrev pub element_field : Element → Field
element_field e = field.Element (Number e.table) (body_said e.offset) (map Number e.funcs)

-- ---- fields with strings

abbrev pub import_item : ImportDesc → Defined
import_item (imported.Func x) = defined.Func (use_of x) [] no_body
import_item (imported.Table l) = defined.Table l
import_item (imported.Memory l) = defined.Memory l
import_item (imported.Global g) = defined.Global g no_body

pub record SaysImport (source : List ℕ) (f : Field) (i : Import) : Type 0 where
  pub names : ImportNames
  pub is : f ≡ field.Entry (entry None [] (Some names) (import_item i.desc))
  pub from : value_of source names.«module» ≡ i.«module»
  pub known_as : value_of source names.name ≡ i.name

abbrev pub export_field : Token → ExportDesc → Field
export_field t (exported.Func x) = field.Export t kind.Func (Number x)
export_field t (exported.Table x) = field.Export t kind.Table (Number x)
export_field t (exported.Memory x) = field.Export t kind.Memory (Number x)
export_field t (exported.Global x) = field.Export t kind.Global (Number x)

pub record SaysExport (source : List ℕ) (f : Field) (e : Export) : Type 0 where
  pub token : Token
  pub is : f ≡ export_field token e.desc
  pub known_as : value_of source token ≡ e.name

pub record SaysFill (source : List ℕ) (f : Field) (x : Fill) : Type 0 where
  pub token : Token
  pub is : f ≡ field.Data (Number x.memory) (body_said x.offset) (token ∷ [])
  pub bytes : value_of source token ≡ x.bytes

-- fields say these items, one by one
pub data SaysEach {A : Type 0} (Says : Field → A → Type 0) : List Field → List A → Type 0 where
  none : SaysEach Says [] []
  more : (f : Field) (fs : List Field) (x : A) (xs : List A) → Says f x → SaysEach Says fs xs → SaysEach Says (f ∷ fs) (x ∷ xs)

-- ---- all fields

abbrev pub parts_fields : Module → List Field → List Field
parts_fields m imports = map sig_field m.sigs ++ (imports ++ (map func_field m.funcs ++ (map table_field m.tables ++ (map memory_field m.memories ++ map global_field m.globals))))

abbrev pub uses_fields : Module → (exports fills : List Field) → List Field
uses_fields m exports fills = exports ++ (start_fields m.start ++ (map element_field m.elements ++ fills))

pub record Says (source : List ℕ) (fields : List Field) (m : Module) : Type 0 where
  pub imports : List Field
  pub exports : List Field
  pub fills : List Field
  pub is : fields ≡ parts_fields m imports ++ uses_fields m exports fills
  pub imported : SaysEach (SaysImport source) imports m.imports
  pub exported : SaysEach (SaysExport source) exports m.exports
  pub filled : SaysEach (SaysFill source) fills m.fills
