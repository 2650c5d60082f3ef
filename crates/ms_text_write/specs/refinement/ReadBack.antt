-- What is written is read as what it is (WebAssembly 1.0, 6.3).
use Rattle.std.specs.Prelude.{◌≡◌, ◌++◌, ℕ, ℤ, List, Some, decimal}
use Rattle.std.specs.Fmt.{signed_decimal}
use Rattle.ms_text_lex.specs.Numbers.{constant_of, index_of}
use Rattle.ms_text_lex.specs.Words.{kind_of}
use Rattle.ms_text_lex.specs.Values.{bytes_in, string_bytes}
use Rattle.ms_text_lex.specs.declared.token.Kind.TheVariants.{Number}
use Rattle.ms_text_write.specs.Parts.{string_text}

-- an index is a number token that stands for it
abbrev pub IndexIsRead : ℕ → Type 0
IndexIsRead n = (kind_of (decimal n) ≡ Number) × (index_of (decimal n) ≡ Some n)

-- a constant of so many bits is a number token that stands for it
abbrev pub ConstantIsRead : ℕ → ℤ → Type 0
ConstantIsRead bits z = (kind_of (signed_decimal z) ≡ Number) × (constant_of bits (signed_decimal z) ≡ Some z)

-- bytes as a string are one, whatever follows it, and it stands for them
abbrev pub StringIsRead : List ℕ → Type 0
StringIsRead bs = ((rest : List ℕ) → string_bytes.spelled (string_text bs ++ rest) bs rest) × (bytes_in (string_text bs) ≡ bs)
