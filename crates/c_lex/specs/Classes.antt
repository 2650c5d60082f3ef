-- Classes of bytes (C11, 5.2.1), in ASCII.
use Rattle.std.specs.Prelude.{◌==◌, ◌-◌, ◌||◌, ◌&&◌, not, ℕ, Bool, nat_le, if◌then◌else◌}
use Rattle.c_lex.specs.declared.class.Base.{Base}
use Rattle.c_lex.specs.declared.class.Base.TheVariants.{Decimal, Hexadecimal, Octal}
use Rattle.c_lex.specs.declared.class.Class.{Class}
use Rattle.c_lex.specs.declared.class.Class.TheVariants.{Blank, Digit, Line, Name}

abbrev pub is_between : ℕ → ℕ → ℕ → Bool
is_between low high b = nat_le low b && nat_le b high

-- what may begin an identifier (6.4.2.1): a letter or `_`
abbrev pub is_letter : ℕ → Bool
is_letter b = is_between 97 122 b || is_between 65 90 b || (b == 95)

abbrev pub is_decimal : ℕ → Bool
is_decimal b = is_between 48 57 b

-- 6.4.4.1
abbrev pub is_digit : Base → ℕ → Bool
is_digit Octal b = is_between 48 55 b
is_digit Decimal b = is_decimal b
is_digit Hexadecimal b = is_decimal b || is_between 97 102 b || is_between 65 70 b

-- what a digit is worth
abbrev pub worth : ℕ → ℕ
worth b = if is_decimal b then b - 48 else if is_between 97 102 b then b - 87 else if is_between 65 70 b then b - 55 else 0

-- blanks but for the line's end, what a line is made of, what an identifier is made of, digits
abbrev pub is_in : Class → ℕ → Bool
is_in Blank b = (b == 32) || (b == 9) || is_between 11 13 b
is_in Line b = not (b == 10)
is_in Name b = is_letter b || is_decimal b
is_in (Digit base) b = is_digit base b
