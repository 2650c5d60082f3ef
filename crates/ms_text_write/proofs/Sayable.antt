-- What holds of a module that can be said in a text: each number in its range, each name text, each body one that is numbered,
-- and no more blocks in one another and no more locals than a text may have.
use Rattle.std.specs.Prelude.{◌^◌, ◌-◌, ◌<◌, ◌≤◌, ℕ, ℤ, pos, negsuc, List, Option, Some, None, All, IsTrue, length}
use Rattle.std.specs.Str.{is_utf8}
use Rattle.ms_types.specs.declared.types.Limits.{Limits}
use Rattle.ms_module.specs.declared.access.Linear.{Linear}
use Rattle.ms_module.specs.declared.access.Linear.TheVariants as linear
use Rattle.ms_module.specs.declared.access.Segment.{Segment}
use Rattle.ms_module.specs.declared.access.Segment.TheVariants as segment
use Rattle.ms_module.specs.declared.instr.Instr.{Instr}
use Rattle.ms_module.specs.declared.instr.Instr.TheVariants as instr
use Rattle.ms_module.specs.declared.module.ImportDesc.{ImportDesc}
use Rattle.ms_module.specs.declared.module.ImportDesc.TheVariants as imported
use Rattle.ms_module.specs.declared.module.Import.{Import}
use Rattle.ms_module.specs.declared.module.Func.{Func}
use Rattle.ms_module.specs.declared.module.Global.{Global}
use Rattle.ms_module.specs.declared.module.ExportDesc.{ExportDesc}
use Rattle.ms_module.specs.declared.module.ExportDesc.TheVariants as exported
use Rattle.ms_module.specs.declared.module.Export.{Export}
use Rattle.ms_module.specs.declared.module.Element.{Element}
use Rattle.ms_module.specs.declared.module.Fill.{Fill}
use Rattle.ms_module.specs.declared.module.Module.{Module}
use Rattle.ms_module.specs.Building.{IsNumbered}
use Rattle.ms_module.specs.refinement.Nesting.{NestsWithin}
use Rattle.ms_text_grammar.specs.Bounds.{Bounds}

-- ---- numbers

abbrev pub Narrow : ℕ → Type 0
Narrow n = n < 2 ^ 32

-- a signed number of so many bits
abbrev pub Signed : ℕ → ℤ → Type 0
Signed bits (pos n) = n < 2 ^ (bits - 1)
Signed bits (negsuc n) = n < 2 ^ (bits - 1)

-- ---- types

abbrev pub SayableMax : Option ℕ → Type 0
SayableMax None = Unit {0}
SayableMax (Some max) = Narrow max

abbrev pub SayableLimits : Limits → Type 0
SayableLimits l = Narrow l.min × SayableMax l.max

-- ---- instructions

abbrev pub SayableLinear : Linear → Type 0
SayableLinear (linear.Load op arg) = Narrow arg.offset
SayableLinear (linear.Store op arg) = Narrow arg.offset
SayableLinear _ = Unit {0}

abbrev pub SayableSegment : Segment → Type 0
SayableSegment (segment.Add scale) = Narrow scale
SayableSegment _ = Unit {0}

abbrev pub SayableInstr : Instr → Type 0
SayableInstr (instr.Br l) = Narrow l
SayableInstr (instr.BrIf l) = Narrow l
SayableInstr (instr.BrTable targets) = All Narrow targets.labels × Narrow targets.default
SayableInstr (instr.Call x) = Narrow x
SayableInstr (instr.CallIndirect x) = Narrow x
SayableInstr (instr.LocalGet x) = Narrow x
SayableInstr (instr.LocalSet x) = Narrow x
SayableInstr (instr.LocalTee x) = Narrow x
SayableInstr (instr.GlobalGet x) = Narrow x
SayableInstr (instr.GlobalSet x) = Narrow x
SayableInstr (instr.I32Const n) = Signed 32 n
SayableInstr (instr.I64Const n) = Signed 64 n
SayableInstr (instr.Linear i) = SayableLinear i
SayableInstr (instr.Segment i) = SayableSegment i
SayableInstr _ = Unit {0}

-- ---- bodies

-- at most so many blocks are in one another
pub record SayableBody (most : ℕ) (ss : List (List Instr)) : Type 0 where
  pub numbered : IsNumbered ss
  pub shallow : NestsWithin most ss 0
  pub ranges : All (λ is. All SayableInstr is) ss

-- ---- fields

-- bytes that are text
abbrev pub SayableName : List ℕ → Type 0
SayableName bs = All (λ b. b < 256) bs × IsTrue (is_utf8 bs)

abbrev pub SayableImportDesc : ImportDesc → Type 0
SayableImportDesc (imported.Func x) = Narrow x
SayableImportDesc (imported.Table l) = SayableLimits l
SayableImportDesc (imported.Memory l) = SayableLimits l
SayableImportDesc (imported.Global g) = Unit {0}

pub record SayableImport (i : Import) : Type 0 where
  pub from : SayableName i.«module»
  pub known_as : SayableName i.name
  pub desc : SayableImportDesc i.desc

pub record SayableFunc (bounds : Bounds) (f : Func) : Type 0 where
  pub sig : Narrow f.sig
  pub few : length f.locals ≤ bounds.locals
  pub body : SayableBody bounds.blocks f.body

abbrev pub SayableExportDesc : ExportDesc → Type 0
SayableExportDesc (exported.Func x) = Narrow x
SayableExportDesc (exported.Table x) = Narrow x
SayableExportDesc (exported.Memory x) = Narrow x
SayableExportDesc (exported.Global x) = Narrow x

pub record SayableExport (e : Export) : Type 0 where
  pub name : SayableName e.name
  pub desc : SayableExportDesc e.desc

pub record SayableElement (bounds : Bounds) (e : Element) : Type 0 where
  pub table : Narrow e.table
  pub offset : SayableBody bounds.blocks e.offset
  pub funcs : All Narrow e.funcs

pub record SayableFill (bounds : Bounds) (f : Fill) : Type 0 where
  pub memory : Narrow f.memory
  pub offset : SayableBody bounds.blocks f.offset
  pub bytes : All (λ b. b < 256) f.bytes

-- ---- modules

pub record Sayable (bounds : Bounds) (m : Module) : Type 0 where
  pub imports : All SayableImport m.imports
  pub funcs : All (SayableFunc bounds) m.funcs
  pub tables : All SayableLimits m.tables
  pub memories : All SayableLimits m.memories
  pub globals : All (λ (g : Global). SayableBody bounds.blocks g.init) m.globals
  pub exports : All SayableExport m.exports
  pub start : SayableMax m.start
  pub elements : All (SayableElement bounds) m.elements
  pub fills : All (SayableFill bounds) m.fills
