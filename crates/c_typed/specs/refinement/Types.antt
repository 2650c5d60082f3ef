-- Which types may stand in a unit (C11, 6.2.5, 6.7.6).
use Rattle.std.specs.Prelude.{ℕ, ◌≤◌, ◌<◌, length}
use Rattle.c_types.specs.Types.{Ty, void, integer, struct, pointer, array, function, Tys, no_types, types}
use Rattle.c_types.specs.Layout.{Table, IsSmall, most_bytes}

-- a type of which an object holds one value (6.2.5, paragraph 21)
abbrev pub IsScalar : Ty → Type 0
IsScalar (integer t) = Unit {0}
IsScalar (pointer t) = Unit {0}
IsScalar _ = ⊥

-- what an expression may have as its type, and a function as its result: a scalar, or nothing (6.3.2.1, 6.3.2.2)
abbrev pub IsValue : Ty → Type 0
IsValue void = Unit {0}
IsValue (integer t) = Unit {0}
IsValue (pointer t) = Unit {0}
IsValue _ = ⊥

-- what a pointer leads to: an object, a struct that may not be defined, or a function
abbrev pub MayBeLedTo : Ty → Type 0
MayBeLedTo void = ⊥
MayBeLedTo _ = Unit {0}

-- Tags have numbers, arrays have elements of a size, in all at most 2^30 bytes (6.7.6.2), functions take scalars and give a value
-- (6.7.6.3).
abbrev mutual
  pub IsType : Table → Ty → Type 0
  IsType table void = Unit {0}
  IsType table (integer t) = Unit {0}
  IsType table (struct n) = n < length table
  IsType table (pointer t) = MayBeLedTo t × IsType table t
  IsType table (array t n) = IsType table t × IsSmall table (array t n) × (n ≤ most_bytes)
  IsType table (function r ps) = IsValue r × IsType table r × AreParameters table ps

  pub AreParameters : Table → Tys → Type 0
  AreParameters table no_types = Unit {0}
  AreParameters table (types t ts) = IsScalar t × IsType table t × AreParameters table ts

-- the type of an object: it has a size, of at most 2^30 bytes
abbrev pub IsObject : Table → Ty → Type 0
IsObject table t = IsType table t × IsSmall table t
