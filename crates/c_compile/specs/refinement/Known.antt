-- What the code around an expression asks of its own node, by what is known of it.
use Rattle.std.specs.Prelude.{ℕ, ℤ, Bool, true, false, Option, Some, None}
use Rattle.c_meaning.specs.Integers.{value_of}
use Rattle.c_compile.specs.declared.known.Known.{Known}
use Rattle.c_compile.specs.declared.known.Known.TheVariants.{Number, Size, Null, Bit}

abbrev pub number_in : Known → Option ℤ
number_in (Number t n) = Some (value_of t n)
number_in _ = None

abbrev pub bytes_in : Known → Option ℕ
bytes_in (Number t n) = Some n
bytes_in (Size n) = Some n
bytes_in _ = None

abbrev pub is_null : Known → Bool
is_null Null = true
is_null _ = false

abbrev pub is_bit : Known → Bool
is_bit Bit = true
is_bit _ = false
