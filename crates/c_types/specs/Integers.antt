-- Integer types (C11, 6.2.5): their ranks, widths and signs, and the conversions among them.
use Rattle.std.specs.Prelude.{ℕ, ◌&&◌, ◌==◌, Bool, true, false, if◌then◌else◌, nat_lt, nat_le}
use Rattle.c_types.specs.declared.integers.IntType.{IntType}
use Rattle.c_types.specs.declared.integers.IntType.TheVariants.{Char, SignedChar, UnsignedChar, Short, UnsignedShort, Int, UnsignedInt, Long, UnsignedLong, LongLong, UnsignedLongLong}

abbrev pub bits : IntType → ℕ
bits Char = 8
bits SignedChar = 8
bits UnsignedChar = 8
bits Short = 16
bits UnsignedShort = 16
bits Int = 32
bits UnsignedInt = 32
bits Long = 32
bits UnsignedLong = 32
bits LongLong = 64
bits UnsignedLongLong = 64

-- a plain char is signed
abbrev pub is_signed : IntType → Bool
is_signed UnsignedChar = false
is_signed UnsignedShort = false
is_signed UnsignedInt = false
is_signed UnsignedLong = false
is_signed UnsignedLongLong = false
is_signed _ = true

-- a signed type and its unsigned one have one rank (6.3.1.1)
abbrev pub rank : IntType → ℕ
rank Char = 1
rank SignedChar = 1
rank UnsignedChar = 1
rank Short = 2
rank UnsignedShort = 2
rank Int = 3
rank UnsignedInt = 3
rank Long = 4
rank UnsignedLong = 4
rank LongLong = 5
rank UnsignedLongLong = 5

-- the unsigned type that corresponds to a type (6.2.5, paragraph 6)
abbrev pub unsigned_of : IntType → IntType
unsigned_of Char = UnsignedChar
unsigned_of SignedChar = UnsignedChar
unsigned_of Short = UnsignedShort
unsigned_of Int = UnsignedInt
unsigned_of Long = UnsignedLong
unsigned_of LongLong = UnsignedLongLong
unsigned_of t = t

-- whether the first type can represent all values of the second
abbrev pub holds : IntType → IntType → Bool
holds t u =
    if is_signed u then is_signed t && nat_le (bits u) (bits t) else (if is_signed t then nat_lt (bits u) (bits t) else nat_le (bits u) (bits t))

-- ---- which type it is

-- a number for each integer type
abbrev pub index_of : IntType → ℕ
index_of Char = 0
index_of SignedChar = 1
index_of UnsignedChar = 2
index_of Short = 3
index_of UnsignedShort = 4
index_of Int = 5
index_of UnsignedInt = 6
index_of Long = 7
index_of UnsignedLong = 8
index_of LongLong = 9
index_of UnsignedLongLong = 10

abbrev pub same_integer : IntType → IntType → Bool
same_integer t u = index_of t == index_of u

-- ---- conversions

-- the integer promotions (6.3.1.1)
abbrev pub promoted : IntType → IntType
promoted t = if nat_le (rank t) (rank Int) then (if holds Int t then Int else UnsignedInt) else t

-- of two types of one sign, the one of greater rank
abbrev pub greater : IntType → IntType → IntType
greater t u = if nat_lt (rank t) (rank u) then u else t

-- the common type of a signed type and an unsigned one
abbrev pub of_both_signs : (s u : IntType) → IntType
of_both_signs s u = if nat_le (rank s) (rank u) then u else (if holds s u then s else unsigned_of s)

-- the usual arithmetic conversions (6.3.1.8)
abbrev pub common : IntType → IntType → IntType
common t u = of_promoted (promoted t) (promoted u) where
  of_promoted : IntType → IntType → IntType
  of_promoted t u =
      if is_signed t then (if is_signed u then greater t u else of_both_signs t u) else (if is_signed u then of_both_signs u t else greater t u)
