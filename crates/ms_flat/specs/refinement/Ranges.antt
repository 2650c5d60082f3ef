-- What holds of the numbers of values that a program holds: each is within its type. The private functions of both writers say so
-- of what they write.
use Rattle.std.specs.Prelude.{◌<◌, ◌^◌, ◌<ℤ◌, ◌≤ℤ◌, ℕ, ℤ, neg_ℤ, pos, List, [], ◌∷◌, Option, Some, None}
use Rattle.ms_types.specs.declared.types.Limits.{Limits}
use Rattle.ms_module.specs.declared.access.Linear.{Linear}
use Rattle.ms_module.specs.declared.access.Linear.TheVariants as linear
use Rattle.ms_module.specs.declared.access.Segment.{Segment}
use Rattle.ms_module.specs.declared.access.Segment.TheVariants as segment
use Rattle.ms_module.specs.declared.br_table.Targets.{Targets}
use Rattle.ms_module.specs.declared.instr.Instr.{Instr}
use Rattle.ms_module.specs.declared.instr.Instr.TheVariants as instr
use Rattle.ms_module.specs.declared.module.ImportDesc.{ImportDesc}
use Rattle.ms_module.specs.declared.module.ImportDesc.TheVariants as imported
use Rattle.ms_module.specs.declared.module.Global.{Global}
use Rattle.ms_module.specs.declared.module.ExportDesc.{ExportDesc}
use Rattle.ms_module.specs.declared.module.ExportDesc.TheVariants as exported
use Rattle.ms_module.specs.declared.module.Element.{Element}
use Rattle.ms_module.specs.Building.{IsNumbered}
use Rattle.ms_flat.specs.Flat.{Item, Plain, flat}

abbrev pub AllFit : {A : Type 0} → (A → Type 0) → List A → Type 0
AllFit fits [] = Unit {0}
AllFit fits (x ∷ xs) = fits x × AllFit fits xs

abbrev pub NumberFits : ℕ → Type 0
NumberFits n = n < 2 ^ 32

abbrev pub NumberFitsIf : Option ℕ → Type 0
NumberFitsIf None = Unit {0}
NumberFitsIf (Some n) = n < 2 ^ 32

abbrev pub LimitsFit : Limits → Type 0
LimitsFit l = (l.min < 2 ^ 32) × NumberFitsIf l.max

-- from -2^bits to 2^bits - 1
abbrev pub ConstantFits : ℕ → ℤ → Type 0
ConstantFits bits n = (neg_ℤ (pos (2 ^ bits)) ≤ℤ n) × (n <ℤ pos (2 ^ bits))

abbrev pub LinearFits : Linear → Type 0
LinearFits (linear.Load op arg) = (arg.align < 2 ^ 32) × (arg.offset < 2 ^ 32)
LinearFits (linear.Store op arg) = (arg.align < 2 ^ 32) × (arg.offset < 2 ^ 32)
LinearFits _ = Unit {0}

abbrev pub SegmentFits : Segment → Type 0
SegmentFits (segment.Add scale) = scale < 2 ^ 32
SegmentFits _ = Unit {0}

abbrev pub TargetsFit : Targets → Type 0
TargetsFit targets = AllFit NumberFits targets.labels × (targets.default < 2 ^ 32)

abbrev pub InstrFits : Instr → Type 0
InstrFits (instr.Br l) = l < 2 ^ 32
InstrFits (instr.BrIf l) = l < 2 ^ 32
InstrFits (instr.BrTable targets) = TargetsFit targets
InstrFits (instr.Call x) = x < 2 ^ 32
InstrFits (instr.CallIndirect x) = x < 2 ^ 32
InstrFits (instr.LocalGet x) = x < 2 ^ 32
InstrFits (instr.LocalSet x) = x < 2 ^ 32
InstrFits (instr.LocalTee x) = x < 2 ^ 32
InstrFits (instr.GlobalGet x) = x < 2 ^ 32
InstrFits (instr.GlobalSet x) = x < 2 ^ 32
InstrFits (instr.I32Const n) = ConstantFits 31 n
InstrFits (instr.I64Const n) = ConstantFits 63 n
InstrFits (instr.Linear i) = LinearFits i
InstrFits (instr.Segment i) = SegmentFits i
InstrFits _ = Unit {0}

abbrev pub ItemFits : Item → Type 0
ItemFits (Plain i) = InstrFits i
ItemFits _ = Unit {0}

abbrev pub CodeFits : List (List Instr) → Type 0
CodeFits ss = IsNumbered ss × AllFit ItemFits (flat ss)

abbrev pub ImportDescFits : ImportDesc → Type 0
ImportDescFits (imported.Func x) = x < 2 ^ 32
ImportDescFits (imported.Table l) = LimitsFit l
ImportDescFits (imported.Memory l) = LimitsFit l
ImportDescFits (imported.Global g) = Unit {0}

abbrev pub GlobalFits : Global → Type 0
GlobalFits g = CodeFits g.init

abbrev pub ExportDescFits : ExportDesc → Type 0
ExportDescFits (exported.Func x) = x < 2 ^ 32
ExportDescFits (exported.Table x) = x < 2 ^ 32
ExportDescFits (exported.Memory x) = x < 2 ^ 32
ExportDescFits (exported.Global x) = x < 2 ^ 32

abbrev pub ElementFits : Element → Type 0
ElementFits e = (e.table < 2 ^ 32) × CodeFits e.offset × AllFit NumberFits e.funcs
