-- Classes of bytes of the text format (WebAssembly 1.0, 6.2 and 6.3), in ASCII.
use Rattle.std.specs.Prelude.{◌==◌, ◌-◌, ◌||◌, ◌&&◌, not, ℕ, Bool, Option, Some, None, nat_le, if◌then◌else◌}
use Rattle.ms_text_lex.specs.declared.class.Class.{Class}
use Rattle.ms_text_lex.specs.declared.class.Class.TheVariants.{Blank, IdChar, Line}

abbrev pub is_between : ℕ → ℕ → ℕ → Bool
is_between low high b = nat_le low b && nat_le b high

-- white space but for comments (6.2.3): space, tab, line feed, carriage return
abbrev pub is_blank : ℕ → Bool
is_blank b = (b == 32) || (b == 9) || (b == 10) || (b == 13)

-- what an identifier is made of (6.3.5): every visible character but " ( ) , ; [ ] { }
abbrev pub is_idchar : ℕ → Bool
is_idchar b = is_between 33 126 b && not ((b == 34) || (b == 40) || (b == 41) || (b == 44) || (b == 59) || (b == 91) || (b == 93) || (b == 123) || (b == 125))

-- what a line is made of
abbrev pub is_in : Class → ℕ → Bool
is_in Blank b = is_blank b
is_in Line b = not (b == 10)
is_in IdChar b = is_idchar b

abbrev pub is_decimal : ℕ → Bool
is_decimal b = is_between 48 57 b

-- what a hexadecimal digit is worth (6.3.1)
abbrev pub hex : ℕ → Option ℕ
hex b =
    if is_between 48 57 b then Some (b - 48) else
    if is_between 97 102 b then Some (b - 87) else
    if is_between 65 70 b then Some (b - 55) else None
