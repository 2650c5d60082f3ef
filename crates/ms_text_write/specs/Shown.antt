-- A module as it is written in text (WebAssembly 1.0, 6.6): with indices alone, flat instructions and no abbreviations, each
-- field on a line of its own.
use Rattle.std.specs.Prelude.{ℕ, List, [], ◌++◌, Option, Some, None, codes, decimal}
use Rattle.ms_module.specs.declared.instr.Instr.{Instr}
use Rattle.ms_module.specs.declared.module.ImportDesc.{ImportDesc}
use Rattle.ms_module.specs.declared.module.ImportDesc.TheVariants as imported
use Rattle.ms_module.specs.declared.module.Import.{Import}
use Rattle.ms_module.specs.declared.module.Func.{Func}
use Rattle.ms_module.specs.declared.module.Global.{Global}
use Rattle.ms_module.specs.declared.module.ExportDesc.{ExportDesc}
use Rattle.ms_module.specs.declared.module.ExportDesc.TheVariants as exported
use Rattle.ms_module.specs.declared.module.Export.{Export}
use Rattle.ms_module.specs.declared.module.Element.{Element}
use Rattle.ms_module.specs.declared.module.Fill.{Fill}
use Rattle.ms_module.specs.declared.module.Module.{Module}
use Rattle.ms_text_grammar.specs.declared.word.Word.TheVariants as word
use Rattle.ms_text_write.specs.Parts.{behind, indexed, opened, spaced, string_text}
use Rattle.ms_text_write.specs.Types.{func_type_text, global_type_text, group_text, memory_text, table_text}
use Rattle.ms_text_write.specs.Instrs.{body_text}

-- ---- imports and exports (6.6.4, 6.6.9)

unfoldable pub import_desc_text : ImportDesc → List ℕ
import_desc_text (imported.Func x) = opened word.Func ++ (codes " " ++ (indexed word.Type x ++ codes ")"))
import_desc_text (imported.Table l) = table_text l
import_desc_text (imported.Memory l) = memory_text l
import_desc_text (imported.Global g) = opened word.Global ++ (codes " " ++ (global_type_text g ++ codes ")"))

-- `(import "a" "b" (func (type 0)))`
unfoldable pub import_text : Import → List ℕ
import_text i =
    opened word.Import ++ (codes " " ++ (string_text i.«module» ++ (codes " " ++ (string_text i.name ++ (codes " " ++ (import_desc_text i.desc ++ codes ")"))))))

abbrev pub export_desc_text : ExportDesc → List ℕ
export_desc_text (exported.Func x) = indexed word.Func x
export_desc_text (exported.Table x) = indexed word.Table x
export_desc_text (exported.Memory x) = indexed word.Memory x
export_desc_text (exported.Global x) = indexed word.Global x

-- `(export "main" (func 0))`
unfoldable pub export_text : Export → List ℕ
export_text e = opened word.Export ++ (codes " " ++ (string_text e.name ++ (codes " " ++ (export_desc_text e.desc ++ codes ")"))))

-- ---- functions and globals (6.6.5, 6.6.8)

-- `(func (type 0) (local ..)`, and each item of the body on a line of its own
unfoldable pub func_text : Func → List ℕ
func_text f =
    opened word.Func ++ (codes " " ++ (indexed word.Type f.sig ++ (group_text word.Local f.locals ++ (body_text (codes "\n    ") f.body ++ codes ")"))))

-- the instructions of a constant expression, each behind a space
abbrev pub init_text : List (List Instr) → List ℕ
init_text ss = body_text (codes " ") ss

-- `(global (mut i32) i32.const 0)`
unfoldable pub global_text : Global → List ℕ
global_text g = opened word.Global ++ (codes " " ++ (global_type_text g.ty ++ (init_text g.init ++ codes ")")))

-- ---- what tables and memories begin with (6.6.11, 6.6.12)

-- ` 0 (offset i32.const 0)`, the index and the place
unfoldable pub place_text : ℕ → List (List Instr) → List ℕ
place_text x ss = codes " " ++ (decimal x ++ (codes " " ++ (opened word.Offset ++ (init_text ss ++ codes ")"))))

-- `(elem 0 (offset i32.const 0) 1 2)`
unfoldable pub element_text : Element → List ℕ
element_text e = opened word.Elem ++ (place_text e.table e.offset ++ (spaced decimal e.funcs ++ codes ")"))

-- `(data 0 (offset i32.const 0) "ab")`
unfoldable pub fill_text : Fill → List ℕ
fill_text f = opened word.Data ++ (place_text f.memory f.offset ++ (codes " " ++ (string_text f.bytes ++ codes ")")))

-- ---- modules (6.6.13)

-- a line in front of each field
abbrev pub lead : List ℕ
lead = codes "\n  "

unfoldable pub lines : {A : Type 0} → (A → List ℕ) → List A → List ℕ
lines text xs = behind lead text xs

abbrev pub start_line : Option ℕ → List ℕ
start_line None = []
start_line (Some x) = lead ++ indexed word.Start x

-- what the module is made of
unfoldable pub parts_text : Module → List ℕ
parts_text m =
    lines func_type_text m.sigs
    ++ (lines import_text m.imports
    ++ (lines func_text m.funcs
    ++ (lines table_text m.tables
    ++ (lines memory_text m.memories ++ lines global_text m.globals))))

-- what it gives, and what it begins with
unfoldable pub uses_text : Module → List ℕ
uses_text m = lines export_text m.exports ++ (start_line m.start ++ (lines element_text m.elements ++ lines fill_text m.fills))

-- `(module`, the fields, `)` and a line's end
abbrev pub shown : Module → List ℕ
shown m = opened word.Module ++ (parts_text m ++ (uses_text m ++ codes ")\n"))
