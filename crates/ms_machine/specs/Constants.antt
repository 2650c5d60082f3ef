-- The values of constant expressions (WebAssembly 1.0, 3.3.7), where globals have these values. In a valid module there is no
-- other instruction and no other value.
use Rattle.std.specs.Prelude.{ℕ, List, [], ◌∷◌, slice_get, Option, Some, None}
use Rattle.ms_num.specs.Integers.{wrapped}
use Rattle.ms_handle.specs.declared.handle.Handle.TheVariants as handles
use Rattle.ms_linear.specs.declared.value.Value.{Value}
use Rattle.ms_linear.specs.declared.value.Value.TheVariants as values
use Rattle.ms_module.specs.declared.access.Segment.TheVariants.{Null}
use Rattle.ms_module.specs.declared.instr.Instr.{Instr}
use Rattle.ms_module.specs.declared.instr.Instr.TheVariants.{GlobalGet, I32Const, I64Const, Segment}
use Rattle.ms_module.specs.Numbered.{sequence_at}

abbrev pub value_or_zero : Option Value → Value
value_or_zero None = values.I32 0
value_or_zero (Some v) = v

-- one instruction
abbrev pub constant : List Value → Instr → Value
constant globals (I32Const n) = values.I32 (wrapped 32 n)
constant globals (I64Const n) = values.I64 (wrapped 64 n)
constant globals (Segment Null) = values.Handle handles.Null
constant globals (GlobalGet x) = value_or_zero (slice_get globals x)
constant globals _ = values.I32 0

-- the first of a sequence
abbrev pub constant_in : List Value → List Instr → Value
constant_in globals [] = values.I32 0
constant_in globals (i ∷ is) = constant globals i

-- an expression
abbrev pub constant_of : List Value → List (List Instr) → Value
constant_of globals code = constant_in globals (sequence_at code 0)

-- a value as the place from which elements or data are written
abbrev pub index_of : Value → ℕ
index_of (values.I32 n) = n
index_of v = 0
