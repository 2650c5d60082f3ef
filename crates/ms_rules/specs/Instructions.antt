-- The types of the instructions that have one type each (WebAssembly 1.0, 3.3.1 and 3.3.4), and of those on handles.
use Rattle.std.specs.Prelude.{List, [], ◌∷◌, Option, Some, None}
use Rattle.ms_types.specs.declared.types.ValType.{ValType}
use Rattle.ms_types.specs.declared.types.ValType.TheVariants.{I32, I64, Handle}
use Rattle.ms_module.specs.declared.numeric.Width.{Width}
use Rattle.ms_module.specs.declared.numeric.Width.TheVariants.{W32, W64}
use Rattle.ms_module.specs.declared.numeric.Numeric.{Numeric}
use Rattle.ms_module.specs.declared.numeric.Numeric.TheVariants.{Eqz, Compare, Unary, Binary, Wrap, ExtendS, ExtendU}
use Rattle.ms_module.specs.declared.access.LoadOp.{LoadOp}
use Rattle.ms_module.specs.declared.access.LoadOp.TheVariants as loads
use Rattle.ms_module.specs.declared.access.StoreOp.{StoreOp}
use Rattle.ms_module.specs.declared.access.StoreOp.TheVariants as stores
use Rattle.ms_module.specs.declared.access.Linear.{Linear}
use Rattle.ms_module.specs.declared.access.Linear.TheVariants as linear
use Rattle.ms_module.specs.declared.access.Segment.{Segment}
use Rattle.ms_module.specs.declared.access.Segment.TheVariants as segment

-- from operands of these types, the last one topmost, to this result
pub record InstrType : Type 0 where
  pub params : List ValType
  pub result : Option ValType

abbrev pub instr_type : List ValType → Option ValType → InstrType
instr_type params result = record { params = params; result = result }

abbrev pub integer : Width → ValType
integer W32 = I32
integer W64 = I64

abbrev pub numeric_type : Numeric → InstrType
numeric_type (Eqz w) = instr_type (integer w ∷ []) (Some I32)
numeric_type (Compare w op) = instr_type (integer w ∷ integer w ∷ []) (Some I32)
numeric_type (Unary w op) = instr_type (integer w ∷ []) (Some (integer w))
numeric_type (Binary w op) = instr_type (integer w ∷ integer w ∷ []) (Some (integer w))
numeric_type Wrap = instr_type (I64 ∷ []) (Some I32)
numeric_type ExtendS = instr_type (I32 ∷ []) (Some I64)
numeric_type ExtendU = instr_type (I32 ∷ []) (Some I64)

-- ---- accesses: the type of the value

abbrev pub loaded : LoadOp → ValType
loaded loads.I32Load = I32
loaded loads.I32Load8S = I32
loaded loads.I32Load8U = I32
loaded loads.I32Load16S = I32
loaded loads.I32Load16U = I32
loaded _ = I64

abbrev pub stored : StoreOp → ValType
stored stores.I32Store = I32
stored stores.I32Store8 = I32
stored stores.I32Store16 = I32
stored _ = I64

-- ---- the linear memory, and segments

abbrev pub linear_type : Linear → InstrType
linear_type (linear.Load op arg) = instr_type (I32 ∷ []) (Some (loaded op))
linear_type (linear.Store op arg) = instr_type (I32 ∷ stored op ∷ []) None
linear_type linear.Size = instr_type [] (Some I32)
linear_type linear.Grow = instr_type (I32 ∷ []) (Some I32)

abbrev pub segment_type : Segment → InstrType
segment_type segment.Null = instr_type [] (Some Handle)
segment_type (segment.New kind) = instr_type (I32 ∷ []) (Some Handle)
segment_type (segment.Free kind) = instr_type (Handle ∷ []) None
segment_type (segment.Add scale) = instr_type (Handle ∷ I64 ∷ []) (Some Handle)
segment_type segment.Slice = instr_type (Handle ∷ I32 ∷ I32 ∷ []) (Some Handle)
segment_type segment.Eq = instr_type (Handle ∷ Handle ∷ []) (Some I32)
segment_type segment.IsNull = instr_type (Handle ∷ []) (Some I32)
segment_type segment.Diff = instr_type (Handle ∷ Handle ∷ []) (Some I64)
segment_type segment.LoadHandle = instr_type (Handle ∷ []) (Some Handle)
segment_type segment.StoreHandle = instr_type (Handle ∷ Handle ∷ []) None
segment_type (segment.Load op) = instr_type (Handle ∷ []) (Some (loaded op))
segment_type (segment.Store op) = instr_type (Handle ∷ stored op ∷ []) None
segment_type segment.Seal = instr_type (Handle ∷ []) (Some Handle)
