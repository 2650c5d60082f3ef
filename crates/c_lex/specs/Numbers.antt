-- Integer constants (C11, 6.4.4.1).
use Rattle.std.specs.Prelude.{◌==◌, ◌+◌, ◌-◌, ◌*◌, ◌^◌, ◌||◌, ◌&&◌, ℕ, Bool, true, false, List, [], ◌∷◌, Option, Some, None, take, drop, nat_le, if◌then◌else◌}
use Rattle.ms_bytes.specs.Texts.{run_len}
use Rattle.c_token.specs.declared.word.IntegerType.{IntegerType}
use Rattle.c_token.specs.declared.word.IntegerType.TheVariants.{Int, Long, LongLong, UnsignedInt, UnsignedLong, UnsignedLongLong}
use Rattle.c_lex.specs.declared.class.Base.{Base}
use Rattle.c_lex.specs.declared.class.Base.TheVariants.{Decimal, Hexadecimal, Octal}
use Rattle.c_lex.specs.declared.numbers.Constant.{Constant}
use Rattle.c_lex.specs.declared.numbers.Constant.TheVariants.{Is, TooLarge, Wrong}
use Rattle.c_lex.specs.declared.numbers.Suffix.{Suffix}
use Rattle.c_lex.specs.declared.numbers.Suffix.TheVariants.{L, Ll, Plain, U, Ul, Ull}
use Rattle.c_lex.specs.Classes.{is_digit, worth}

abbrev pub radix : Base → ℕ
radix Octal = 8
radix Decimal = 10
radix Hexadecimal = 16

-- what digits are worth behind those that are worth v
abbrev pub value_of : Base → ℕ → List ℕ → ℕ
value_of base v [] = v
value_of base v (b ∷ s) = value_of base (v * radix base + worth b) s

-- ---- suffixes

abbrev pub is_u : ℕ → Bool
is_u b = (b == 117) || (b == 85)

abbrev pub is_l : ℕ → Bool
is_l b = (b == 108) || (b == 76)

-- u, l, ll, ul, lu, ull, llu, in either case; both letters of ll are in the same
abbrev pub suffix_of : List ℕ → Option Suffix
suffix_of [] = Some Plain
suffix_of (a ∷ []) = if is_u a then Some U else if is_l a then Some L else None
suffix_of (a ∷ b ∷ []) =
    if (is_u a && is_l b) || (is_l a && is_u b) then Some Ul else
    if is_l a && (a == b) then Some Ll else None
suffix_of (a ∷ b ∷ c ∷ []) = if (is_u a && is_l b && (b == c)) || (is_l a && (a == b) && is_u c) then Some Ull else None
suffix_of (a ∷ b ∷ c ∷ d ∷ s) = None

-- ---- types

-- the greatest value of a type: int and long have 32 bits, long long has 64
abbrev pub greatest : IntegerType → ℕ
greatest Int = 2 ^ 31 - 1
greatest UnsignedInt = 2 ^ 32 - 1
greatest Long = 2 ^ 31 - 1
greatest UnsignedLong = 2 ^ 32 - 1
greatest LongLong = 2 ^ 63 - 1
greatest UnsignedLongLong = 2 ^ 64 - 1

-- the table of 6.4.4.1, 5: the types of a constant, by whether it is decimal and by its suffix
abbrev pub types_of : Bool → Suffix → List IntegerType
types_of true Plain = Int ∷ Long ∷ LongLong ∷ []
types_of false Plain = Int ∷ UnsignedInt ∷ Long ∷ UnsignedLong ∷ LongLong ∷ UnsignedLongLong ∷ []
types_of d U = UnsignedInt ∷ UnsignedLong ∷ UnsignedLongLong ∷ []
types_of true L = Long ∷ LongLong ∷ []
types_of false L = Long ∷ UnsignedLong ∷ LongLong ∷ UnsignedLongLong ∷ []
types_of d Ul = UnsignedLong ∷ UnsignedLongLong ∷ []
types_of true Ll = LongLong ∷ []
types_of false Ll = LongLong ∷ UnsignedLongLong ∷ []
types_of d Ull = UnsignedLongLong ∷ []

-- the first of the types that holds the value
abbrev pub first_holding : ℕ → List IntegerType → Constant
first_holding v [] = TooLarge
first_holding v (t ∷ ts) = if nat_le v (greatest t) then Is v t else first_holding v ts

-- ---- constants

abbrev pub is_ten : Base → Bool
is_ten Octal = false
is_ten Decimal = true
is_ten Hexadecimal = false

abbrev pub with_suffix : Base → List ℕ → Option Suffix → Constant
with_suffix base digits None = Wrong
with_suffix base [] (Some suffix) = Wrong
with_suffix base (d ∷ ds) (Some suffix) = first_holding (value_of base 0 (d ∷ ds)) (types_of (is_ten base) suffix)

-- digits, at least one, and a suffix
abbrev pub constant_in : Base → List ℕ → Constant
constant_in base text = let n = run_len (is_digit base) text in with_suffix base (take n text) (suffix_of (drop n text))

-- whether 0x or 0X stands in front
abbrev pub is_hexadecimal : List ℕ → Bool
is_hexadecimal [] = false
is_hexadecimal (a ∷ []) = false
is_hexadecimal (a ∷ b ∷ s) = (a == 48) && ((b == 120) || (b == 88))

abbrev pub begins_with_0 : List ℕ → Bool
begins_with_0 [] = false
begins_with_0 (a ∷ s) = a == 48

abbrev pub constant_of : List ℕ → Constant
constant_of text =
    if is_hexadecimal text then constant_in Hexadecimal (drop 2 text) else
    if begins_with_0 text then constant_in Octal text else constant_in Decimal text
