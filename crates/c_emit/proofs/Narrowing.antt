-- The bits of a whole number at a type, of its lowest 64.
use Rattle.std.proofs.Common.{◌≡◌, ◌%◌, ◌^◌, arith}
use Rattle.std.specs.Prelude.{ℤ, pos, negsuc}
use Rattle.ms_num.specs.Integers.{wrapped}
use Rattle.c_types.specs.declared.integers.IntType.{IntType}
use Rattle.c_types.specs.declared.integers.IntType.TheVariants.{Char, SignedChar, UnsignedChar, Short, UnsignedShort, Int, UnsignedInt, Long, UnsignedLong, LongLong, UnsignedLongLong}
use Rattle.c_types.specs.Integers.{bits}

lowest_8 : (z : ℤ) → wrapped 64 z % 2 ^ 8 ≡ wrapped 8 z
lowest_8 (pos n) = omega arith
lowest_8 (negsuc n) = omega arith

lowest_16 : (z : ℤ) → wrapped 64 z % 2 ^ 16 ≡ wrapped 16 z
lowest_16 (pos n) = omega arith
lowest_16 (negsuc n) = omega arith

lowest_32 : (z : ℤ) → wrapped 64 z % 2 ^ 32 ≡ wrapped 32 z
lowest_32 (pos n) = omega arith
lowest_32 (negsuc n) = omega arith

lowest_64 : (z : ℤ) → wrapped 64 z % 2 ^ 64 ≡ wrapped 64 z
lowest_64 (pos n) = omega arith
lowest_64 (negsuc n) = omega arith

pub lowest : (u : IntType) (z : ℤ) → wrapped 64 z % 2 ^ bits u ≡ wrapped (bits u) z
lowest Char = lowest_8
lowest SignedChar = lowest_8
lowest UnsignedChar = lowest_8
lowest Short = lowest_16
lowest UnsignedShort = lowest_16
lowest Int = lowest_32
lowest UnsignedInt = lowest_32
lowest Long = lowest_32
lowest UnsignedLong = lowest_32
lowest LongLong = lowest_64
lowest UnsignedLongLong = lowest_64
