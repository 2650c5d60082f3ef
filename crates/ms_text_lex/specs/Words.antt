-- What a run of identifier characters is (WebAssembly 1.0, 6.2.2).
use Rattle.std.specs.Prelude.{◌==◌, ◌||◌, ◌&&◌, not, ℕ, Bool, true, false, List, [], ◌∷◌, drop, is_some, if◌then◌else◌}
use Rattle.ms_text_lex.specs.declared.token.Kind.{Kind}
use Rattle.ms_text_lex.specs.declared.token.Kind.TheVariants.{Id, Keyword, Number, Reserved}
use Rattle.ms_text_lex.specs.Classes.{hex, is_between, is_decimal}

-- whether the byte is a digit, hexadecimal or decimal
abbrev pub is_digit : Bool → ℕ → Bool
is_digit true b = is_some (hex b)
is_digit false b = is_decimal b

-- digits with single underscores between them (6.3.1); bare: a digit must come
abbrev pub are_digits : Bool → Bool → List ℕ → Bool
are_digits hexadecimal bare [] = not bare
are_digits hexadecimal bare (b ∷ s) = if b == 95 then not bare && are_digits hexadecimal true s else is_digit hexadecimal b && are_digits hexadecimal false s

abbrev pub has_sign : List ℕ → Bool
has_sign [] = false
has_sign (b ∷ s) = (b == 43) || (b == 45)

-- whether 0x stands in front
abbrev pub is_hexadecimal : List ℕ → Bool
is_hexadecimal [] = false
is_hexadecimal (a ∷ []) = false
is_hexadecimal (a ∷ b ∷ s) = (a == 48) && (b == 120)

abbrev pub is_unsigned : List ℕ → Bool
is_unsigned s = if is_hexadecimal s then are_digits true true (drop 2 s) else are_digits false true s

abbrev pub is_number : List ℕ → Bool
is_number s = if has_sign s then is_unsigned (drop 1 s) else is_unsigned s

-- $ and at least one byte more (6.3.5)
abbrev pub is_id : List ℕ → Bool
is_id [] = false
is_id (a ∷ []) = false
is_id (a ∷ b ∷ s) = a == 36

-- a small letter in front
abbrev pub is_word : List ℕ → Bool
is_word [] = false
is_word (a ∷ s) = is_between 97 122 a

-- all else is reserved
abbrev pub kind_of : List ℕ → Kind
kind_of s = if is_id s then Id else if is_number s then Number else if is_word s then Keyword else Reserved
