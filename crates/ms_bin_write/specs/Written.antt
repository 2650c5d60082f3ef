-- How a module is written (WebAssembly 1.0, 5.5): with the shortest numbers, the fewest runs of locals, no empty section and no
-- custom one.
use Rattle.std.specs.Prelude.{◌≤◌, ◌^◌, ℕ, suc, Bool, true, false, List, [], ◌∷◌, ◌++◌, length, map, All, Option, Some, None, if◌then◌else◌}
use Rattle.ms_types.specs.declared.types.ValType.{ValType}
use Rattle.ms_types.specs.declared.types.ValType.TheVariants.{I32, I64, Handle}
use Rattle.ms_module.specs.declared.module.ImportDesc.{ImportDesc}
use Rattle.ms_module.specs.declared.module.ImportDesc.TheVariants as imported
use Rattle.ms_module.specs.declared.module.Import.{Import}
use Rattle.ms_module.specs.declared.module.Func.{Func}
use Rattle.ms_module.specs.declared.module.Global.{Global}
use Rattle.ms_module.specs.declared.module.ExportDesc.{ExportDesc}
use Rattle.ms_module.specs.declared.module.ExportDesc.TheVariants as exported
use Rattle.ms_module.specs.declared.module.Export.{Export}
use Rattle.ms_module.specs.declared.module.Element.{Element}
use Rattle.ms_module.specs.declared.module.Fill.{Fill}
use Rattle.ms_module.specs.declared.module.Module.{Module}
use Rattle.ms_module.specs.refinement.Nesting.{ModuleNestsWithin}
use Rattle.ms_bin_grammar.specs.Bounds.{Bounds}
use Rattle.ms_bin_write.specs.Parts.{number_bytes, sized_bytes, vec_bytes}
use Rattle.ms_bin_write.specs.Types.{func_type_bytes, global_type_bytes, limits_bytes, table_bytes, value_code}
use Rattle.ms_bin_write.specs.Instrs.{body_bytes}

-- ---- what sections hold

-- 5.5.5
abbrev pub import_desc_bytes : ImportDesc → List ℕ
import_desc_bytes (imported.Func x) = 0x00 ∷ number_bytes x
import_desc_bytes (imported.Table l) = 0x01 ∷ table_bytes l
import_desc_bytes (imported.Memory l) = 0x02 ∷ limits_bytes l
import_desc_bytes (imported.Global g) = 0x03 ∷ global_type_bytes g

abbrev pub import_bytes : Import → List ℕ
import_bytes i = sized_bytes i.«module» ++ (sized_bytes i.name ++ import_desc_bytes i.desc)

-- 5.5.6: the indices of the functions' types
abbrev pub sigs_of : List Func → List ℕ
sigs_of funcs = map (λ f. f.sig) funcs

-- 5.5.9
abbrev pub global_bytes : Global → List ℕ
global_bytes g = global_type_bytes g.ty ++ body_bytes g.init

-- 5.5.10
abbrev pub export_desc_bytes : ExportDesc → List ℕ
export_desc_bytes (exported.Func x) = 0x00 ∷ number_bytes x
export_desc_bytes (exported.Table x) = 0x01 ∷ number_bytes x
export_desc_bytes (exported.Memory x) = 0x02 ∷ number_bytes x
export_desc_bytes (exported.Global x) = 0x03 ∷ number_bytes x

abbrev pub export_bytes : Export → List ℕ
export_bytes e = sized_bytes e.name ++ export_desc_bytes e.desc

-- 5.5.12
abbrev pub element_bytes : Element → List ℕ
element_bytes e = number_bytes e.table ++ (body_bytes e.offset ++ vec_bytes number_bytes e.funcs)

-- 5.5.14
abbrev pub fill_bytes : Fill → List ℕ
fill_bytes f = number_bytes f.memory ++ (body_bytes f.offset ++ sized_bytes f.bytes)

-- ---- functions (5.5.13)

abbrev pub same_type : ValType → ValType → Bool
same_type I32 I32 = true
same_type I64 I64 = true
same_type Handle Handle = true
same_type _ _ = false

-- a run of locals of one type
pub record Group : Type 0 where
  pub count : ℕ
  pub ty : ValType

-- one more in front
abbrev pub joined : ValType → List Group → List Group
joined ty [] = record { count = 1; ty = ty } ∷ []
joined ty (g ∷ gs) = if same_type ty g.ty then record { count = suc g.count; ty = g.ty } ∷ gs else record { count = 1; ty = ty } ∷ g ∷ gs

-- locals as runs: neighbours of one type are in the same
abbrev pub groups : List ValType → List Group
groups [] = []
groups (ty ∷ tys) = joined ty (groups tys)

abbrev pub group_bytes : Group → List ℕ
group_bytes g = number_bytes g.count ++ value_code g.ty ∷ []

abbrev pub locals_bytes : List ValType → List ℕ
locals_bytes tys = vec_bytes group_bytes (groups tys)

-- an entry of the code section: its size, the locals and the body
abbrev pub func_bytes : Func → List ℕ
func_bytes f = sized_bytes (locals_bytes f.locals ++ body_bytes f.body)

-- ---- sections (5.5.2)

abbrev pub section_bytes : ℕ → List ℕ → List ℕ
section_bytes id content = id ∷ sized_bytes content

-- a section that is a vector of items; none where there are no items
abbrev pub part_bytes : {A : Type 0} → ℕ → (A → List ℕ) → List A → List ℕ
part_bytes id text [] = []
part_bytes id text (x ∷ xs) = section_bytes id (vec_bytes text (x ∷ xs))

abbrev pub start_bytes : Option ℕ → List ℕ
start_bytes None = []
start_bytes (Some x) = section_bytes 8 (number_bytes x)

-- ---- modules (5.5.15): the markers, and the sections by their numbers

abbrev pub markers : List ℕ
markers = 0x00 ∷ 0x61 ∷ 0x73 ∷ 0x6D ∷ 0x01 ∷ 0x00 ∷ 0x00 ∷ 0x00 ∷ []

unfoldable pub sections_bytes : Module → List ℕ
sections_bytes m =
    part_bytes 1 func_type_bytes m.sigs
    ++ (part_bytes 2 import_bytes m.imports
    ++ (part_bytes 3 number_bytes (sigs_of m.funcs)
    ++ (part_bytes 4 table_bytes m.tables
    ++ (part_bytes 5 limits_bytes m.memories
    ++ (part_bytes 6 global_bytes m.globals
    ++ (part_bytes 7 export_bytes m.exports
    ++ (start_bytes m.start
    ++ (part_bytes 9 element_bytes m.elements
    ++ (part_bytes 10 func_bytes m.funcs
    ++ part_bytes 11 fill_bytes m.fills)))))))))

abbrev pub written : Module → List ℕ
written m = markers ++ sections_bytes m

-- A section would have so many bytes that its size is no number of 32 bits. An entry of the code section that is so large makes
-- that section so, and the start section never is.
abbrev pub IsTooMany : {A : Type 0} → (A → List ℕ) → List A → Type 0
IsTooMany text xs = 2 ^ 32 ≤ length (vec_bytes text xs)

pub data IsLarge (m : Module) : Type 0 where
  types : IsTooMany func_type_bytes m.sigs → IsLarge m
  imports : IsTooMany import_bytes m.imports → IsLarge m
  indices : IsTooMany number_bytes (sigs_of m.funcs) → IsLarge m
  tables : IsTooMany table_bytes m.tables → IsLarge m
  memories : IsTooMany limits_bytes m.memories → IsLarge m
  globals : IsTooMany global_bytes m.globals → IsLarge m
  exports : IsTooMany export_bytes m.exports → IsLarge m
  elements : IsTooMany element_bytes m.elements → IsLarge m
  codes : IsTooMany func_bytes m.funcs → IsLarge m
  fills : IsTooMany fill_bytes m.fills → IsLarge m

-- The module has at most so many blocks in one another, and a function at most so many locals.
pub record KeepsBounds (bounds : Bounds) (m : Module) : Type 0 where
  pub blocks : ModuleNestsWithin bounds.blocks m
  pub locals : All (λ f. length f.locals ≤ bounds.locals) m.funcs
