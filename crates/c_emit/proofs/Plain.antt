-- Instructions that are no blocks, whatever type they are at.
use Rattle.std.specs.Prelude.{ℤ}
use Rattle.ms_module.specs.declared.numeric.Width.{Width}
use Rattle.ms_module.specs.declared.numeric.Width.TheVariants.{W32, W64}
use Rattle.ms_module.specs.Numbered.{IsPlain}
use Rattle.c_types.specs.declared.types.Scalar.{Scalar}
use Rattle.c_types.specs.declared.types.Scalar.TheVariants as scalars
use Rattle.c_types.specs.declared.integers.IntType.{IntType}
use Rattle.c_types.specs.declared.integers.IntType.TheVariants.{Char, SignedChar, UnsignedChar, Short, UnsignedShort, Int, UnsignedInt, Long, UnsignedLong, LongLong, UnsignedLongLong}
use Rattle.ms_module.specs.declared.instr.Instr.TheVariants.{Segment}
use Rattle.c_code.specs.Operations.{constant, load, load_of, store, store_of}

pub constant_plain : (w : Width) (z : ℤ) → IsPlain (constant w z)
constant_plain W32 z = tt
constant_plain W64 z = tt

pub load_plain : (s : Scalar) → IsPlain (load s)
load_plain (scalars.Int t) = tt
load_plain scalars.Pointer = tt
load_plain scalars.Function = tt

pub store_plain : (s : Scalar) → IsPlain (store s)
store_plain (scalars.Int t) = tt
store_plain scalars.Pointer = tt
store_plain scalars.Function = tt
