-- Values of C on the operand stack, and the instructions of operators, conversions and accesses (C11, 6.3.1, 6.5; WebAssembly 1.0,
-- 2.4.1, and the instructions on handles). An integer of at most 32 bits is an i32: its number in its type's range, modulo 2^32. An
-- integer of 64 bits is an i64, a pointer to an object a handle, a pointer to a function an i32, its entry in the table.
use Rattle.std.specs.Prelude.{ℕ, ◌-◌, ◌^◌, ℤ, pos, nat_lt, Bool, true, false, List, [], ◌∷◌, Option, Some, None, if◌then◌else◌}
use Rattle.ms_handle.specs.declared.handle.Kind.TheVariants as kinds
use Rattle.ms_num.specs.Integers.{signed, wrapped}
use Rattle.ms_types.specs.declared.types.ValType.{ValType}
use Rattle.ms_types.specs.declared.types.ValType.TheVariants as vals
use Rattle.ms_module.specs.declared.access.LoadOp.TheVariants as loads
use Rattle.ms_module.specs.declared.access.StoreOp.TheVariants as stores
use Rattle.ms_module.specs.declared.access.Segment.{Segment as SegmentInstr}
use Rattle.ms_module.specs.declared.access.Segment.TheVariants as segment
use Rattle.ms_module.specs.declared.instr.Instr.{Instr}
use Rattle.ms_module.specs.declared.instr.Instr.TheVariants.{I32Const, I64Const, Numeric, Segment}
use Rattle.ms_module.specs.declared.numeric.BinOp.{BinOp}
use Rattle.ms_module.specs.declared.numeric.BinOp.TheVariants as bins
use Rattle.ms_module.specs.declared.numeric.RelOp.{RelOp as Relation}
use Rattle.ms_module.specs.declared.numeric.RelOp.TheVariants as rels
use Rattle.ms_module.specs.declared.numeric.Numeric.TheVariants.{Binary, Compare, Eqz, ExtendS, ExtendU, Wrap}
use Rattle.ms_module.specs.declared.numeric.Width.{Width}
use Rattle.ms_module.specs.declared.numeric.Width.TheVariants.{W32, W64}
use Rattle.c_types.specs.declared.integers.IntType.{IntType}
use Rattle.c_types.specs.declared.integers.IntType.TheVariants.{Char, SignedChar, UnsignedChar, Short, UnsignedShort, Int, UnsignedInt, Long, UnsignedLong, LongLong, UnsignedLongLong}
use Rattle.c_types.specs.declared.types.Scalar.{Scalar}
use Rattle.c_types.specs.declared.types.Scalar.TheVariants as scalars
use Rattle.c_types.specs.Integers.{bits, is_signed}
use Rattle.c_types.specs.Types.{Ty, scalar_of}
use Rattle.c_typed.specs.declared.ops.BinaryOp.{BinaryOp}
use Rattle.c_typed.specs.declared.ops.BinaryOp.TheVariants as ops
use Rattle.c_typed.specs.declared.ops.RelOp.{RelOp}
use Rattle.c_typed.specs.declared.ops.RelOp.TheVariants as relations
use Rattle.ms_emit.specs.Codes.{Code, plain, one, no_code, ◌⨾◌}

-- ---- types

abbrev pub width_of : IntType → Width
width_of LongLong = W64
width_of UnsignedLongLong = W64
width_of _ = W32

abbrev pub integer_type : Width → ValType
integer_type W32 = vals.I32
integer_type W64 = vals.I64

abbrev pub val_type : Scalar → ValType
val_type (scalars.Int t) = integer_type (width_of t)
val_type scalars.Pointer = vals.Handle
val_type scalars.Function = vals.I32

abbrev pub val_option : Option Scalar → Option ValType
val_option None = None
val_option (Some s) = Some (val_type s)

-- of a value of this type; none of void
abbrev pub val_of : Ty → Option ValType
val_of t = val_option (scalar_of t)

-- ---- constants

abbrev pub constant : Width → ℤ → Instr
constant W32 z = I32Const (signed 32 (wrapped 32 z))
constant W64 z = I64Const (signed 64 (wrapped 64 z))

abbrev pub i32 : ℕ → Instr
i32 n = constant W32 (pos n)

abbrev pub i64 : ℕ → Instr
i64 n = constant W64 (pos n)

-- what begins as zero (6.7.9, paragraph 10)
abbrev pub zero_of : Scalar → Instr
zero_of (scalars.Int t) = constant (width_of t) (pos 0)
zero_of scalars.Pointer = Segment segment.Null
zero_of scalars.Function = i32 0

-- ---- operators on integers

abbrev pub op : Width → BinOp → Instr
op w o = Numeric (Binary w o)

abbrev pub rel : Width → Relation → Instr
rel w r = Numeric (Compare w r)

abbrev pub eqz : Instr
eqz = Numeric (Eqz W32)

abbrev pub operator : BinaryOp → IntType → BinOp
operator ops.Add t = bins.Add
operator ops.Sub t = bins.Sub
operator ops.Mul t = bins.Mul
operator ops.Div t = if is_signed t then bins.DivS else bins.DivU
operator ops.Rem t = if is_signed t then bins.RemS else bins.RemU
operator ops.And t = bins.And
operator ops.Or t = bins.Or
operator ops.Xor t = bins.Xor
operator ops.ShiftLeft t = bins.Shl
operator ops.ShiftRight t = if is_signed t then bins.ShrS else bins.ShrU

abbrev pub relation : RelOp → IntType → Relation
relation relations.Equal t = rels.Eq
relation relations.NotEqual t = rels.Ne
relation relations.Less t = if is_signed t then rels.LtS else rels.LtU
relation relations.LessEqual t = if is_signed t then rels.LeS else rels.LeU
relation relations.Greater t = if is_signed t then rels.GtS else rels.GtU
relation relations.GreaterEqual t = if is_signed t then rels.GeS else rels.GeU

-- an operation at the type, on two of its numbers
abbrev pub operated : BinaryOp → IntType → Instr
operated o t = op (width_of t) (operator o t)

abbrev pub compared : RelOp → IntType → Instr
compared r t = rel (width_of t) (relation r t)

-- ---- conversions (6.3.1.3)

-- the lowest bits of 32, read as a number of a narrower type
abbrev pub narrow : (bits : ℕ) → (is_signed : Bool) → Code
narrow b true = plain (i32 (32 - b) ∷ op W32 bins.Shl ∷ i32 (32 - b) ∷ op W32 bins.ShrS ∷ [])
narrow b false = plain (i32 (2 ^ b - 1) ∷ op W32 bins.And ∷ [])

abbrev pub to_type : IntType → Code
to_type t = if nat_lt (bits t) 32 then narrow (bits t) (is_signed t) else no_code

abbrev pub by_width : IntType → IntType → Width → Width → Code
by_width t u W32 W32 = to_type u
by_width t u W32 W64 = one (Numeric (if is_signed t then ExtendS else ExtendU))
by_width t u W64 W32 = one (Numeric Wrap) ⨾ to_type u
by_width t u W64 W64 = no_code

abbrev pub convert : IntType → IntType → Code
convert t u = by_width t u (width_of t) (width_of u)

-- 1 where a scalar is neither zero nor null
abbrev pub truth : Scalar → Code
truth (scalars.Int t) = plain (constant (width_of t) (pos 0) ∷ rel (width_of t) rels.Ne ∷ [])
truth scalars.Pointer = plain (Segment segment.IsNull ∷ eqz ∷ [])
truth scalars.Function = plain (i32 0 ∷ rel W32 rels.Ne ∷ [])

-- ---- handles

abbrev pub on_handle : SegmentInstr → Instr
on_handle i = Segment i

-- so many bytes from so many on
abbrev pub slice : (from length : ℕ) → Code
slice from n = plain (i32 from ∷ i32 n ∷ Segment segment.Slice ∷ [])

abbrev pub load_of : IntType → SegmentInstr
load_of Char = segment.Load loads.I32Load8S
load_of SignedChar = segment.Load loads.I32Load8S
load_of UnsignedChar = segment.Load loads.I32Load8U
load_of Short = segment.Load loads.I32Load16S
load_of UnsignedShort = segment.Load loads.I32Load16U
load_of LongLong = segment.Load loads.I64Load
load_of UnsignedLongLong = segment.Load loads.I64Load
load_of _ = segment.Load loads.I32Load

abbrev pub store_of : IntType → SegmentInstr
store_of Char = segment.Store stores.I32Store8
store_of SignedChar = segment.Store stores.I32Store8
store_of UnsignedChar = segment.Store stores.I32Store8
store_of Short = segment.Store stores.I32Store16
store_of UnsignedShort = segment.Store stores.I32Store16
store_of LongLong = segment.Store stores.I64Store
store_of UnsignedLongLong = segment.Store stores.I64Store
store_of _ = segment.Store stores.I32Store

abbrev pub load : Scalar → Instr
load (scalars.Int t) = Segment (load_of t)
load scalars.Pointer = Segment segment.LoadHandle
load scalars.Function = Segment (segment.Load loads.I32Load)

abbrev pub store : Scalar → Instr
store (scalars.Int t) = Segment (store_of t)
store scalars.Pointer = Segment segment.StoreHandle
store scalars.Function = Segment (segment.Store stores.I32Store)

-- ---- segments

-- of so many bytes, of a variable or a literal
abbrev pub new_frame : ℕ → Code
new_frame n = plain (i32 n ∷ Segment (segment.New kinds.Frame) ∷ [])

-- as many elements of this size as the number of bytes on the stack holds (7.22.3.4)
abbrev pub new_heap : (size : ℕ) → Code
new_heap n = plain (i32 n ∷ op W32 bins.DivU ∷ i32 n ∷ op W32 bins.Mul ∷ Segment (segment.New kinds.Heap) ∷ [])
