-- Strings (WebAssembly 1.0, 6.3.3).
use Rattle.std.specs.Prelude.{◌==◌, ◌+◌, ◌*◌, ◌||◌, ◌&&◌, not, ℕ, Bool, true, false, List, [], ◌∷◌, Option, Some, None, nat_lt, if◌then◌else◌}
use Rattle.std.proofs.Common.{arith}
use lib.Utf8.{scalar}
use Rattle.std.specs.Str.{is_utf8}
use Rattle.ms_bytes.specs.Format.{Format}
use Rattle.ms_bytes.specs.Parts.{either, item, pure}
use Rattle.ms_bytes.specs.Runs.{TakesItem}
use Rattle.ms_bytes.specs.RunLaws.{takes_least}
use Rattle.ms_bytes.specs.Repetition.{run}
use Rattle.ms_bytes.specs.Tests.{only, whole}
use Rattle.ms_text_lex.specs.declared.strings.Digits.{Digits}
use Rattle.ms_text_lex.specs.declared.strings.Elements.{Elements}
use Rattle.ms_text_lex.specs.declared.strings.Escape.{Escape}
use Rattle.ms_text_lex.specs.declared.strings.Escape.TheVariants.{High, Simple, Unicode}
use Rattle.ms_text_lex.specs.declared.strings.Piece.{Piece}
use Rattle.ms_text_lex.specs.declared.strings.Piece.TheVariants.{Byte, Scalar}
use Rattle.ms_text_lex.specs.Classes.{hex}
use Rattle.ms_text_lex.specs.Fault.{Fault, broken, char_here, inside, this, ◌>>=◌}

-- ---- escapes

abbrev pub high_of : Option ℕ → Option Escape
high_of (Some h) = Some (High h)
high_of None = None

-- what a byte behind a backslash begins: \t \n \r \" \' \\ \u{..} \hh
abbrev pub escape_of : ℕ → Option Escape
escape_of b =
    if b == 116 then Some (Simple 9) else
    if b == 110 then Some (Simple 10) else
    if b == 114 then Some (Simple 13) else
    if b == 34 then Some (Simple 34) else
    if b == 39 then Some (Simple 39) else
    if b == 92 then Some (Simple 92) else
    if b == 117 then Some Unicode else high_of (hex b)

-- a character's code with one digit more: it stays below 110000 (hexadecimal)
abbrev pub with_digit : Digits → Option ℕ → Option Digits
with_digit st None = None
with_digit st (Some d) = if nat_lt 1114111 (st.value * 16 + d) then None else Some (record { value = st.value * 16 + d; bare = false })

-- a digit, or a single underscore between digits
abbrev pub code_step : Digits → ℕ → Option Digits
code_step st b = if (b == 95) && not st.bare then Some (record { value = st.value; bare = true }) else with_digit st (hex b)

-- up to the closing brace, which stands behind a digit
abbrev pub code_goes : Digits → List ℕ → Bool
code_goes st [] = true
code_goes st (b ∷ s) = not ((b == 125) && not st.bare)

unfoldable pub code_digit : Digits → Format ℕ Fault Digits
code_digit st = item broken (code_step st)

pub code_digit_takes : TakesItem {F = Fault} code_goes code_digit
unfolding code_digit
code_digit_takes = takes_least code_goes code_digit (λ st. omega arith)

unfoldable pub code_digits : Format ℕ Fault Digits
code_digits = run broken code_goes code_digit code_digit_takes (record { value = 0; bare = true })

unfoldable pub code_text : Format ℕ Fault Digits
code_text = do
  brace ← item broken (this 123)
  digits ← code_digits
  close ← item broken (this 125)
  pure digits

-- no surrogate
abbrev pub is_scalar : Digits → List ℕ → Bool
is_scalar c text = scalar c.value

unfoldable pub code_point : Format ℕ Fault Piece
code_point = do
  code ← only is_scalar char_here code_text
  pure (Scalar code.value)

unfoldable pub behind_escape : Escape → Format ℕ Fault Piece
behind_escape (Simple b) = pure (Byte b)
behind_escape (High h) = do
  low ← item broken hex
  pure (Byte (h * 16 + low))
behind_escape Unicode = code_point

unfoldable pub escape : Format ℕ Fault Piece
escape = do
  e ← item broken escape_of
  behind_escape e

-- the byte that an escape of two digits in front tells
abbrev pub paired : Option ℕ → Option ℕ → Option ℕ
paired (Some high) (Some low) = Some (high * 16 + low)
paired _ _ = None

abbrev pub hex_escape : List ℕ → Option ℕ
hex_escape (a ∷ b ∷ c ∷ s) = if a == 92 then paired (hex b) (hex c) else None
hex_escape _ = None

-- ---- elements

-- no control character
abbrev pub plain_byte : ℕ → Option ℕ
plain_byte b = if nat_lt b 32 || (b == 127) then None else Some b

unfoldable pub behind_first : ℕ → Format ℕ Fault Piece
behind_first b = either (b == 92) escape (pure (Byte b))

-- a byte or an escape; a character of more bytes is as many of them
unfoldable pub piece : Format ℕ Fault Piece
piece = do
  b ← item broken plain_byte
  behind_first b

-- up to the closing quote
abbrev pub no_quote : List ℕ → Bool
no_quote [] = true
no_quote (b ∷ s) = not (b == 34)

abbrev pub string_goes : {S : Type 0} → S → List ℕ → Bool
string_goes st s = no_quote s

-- what is made of an element
unfoldable pub piece_step : {S : Type 0} → (S → Piece → S) → S → Format ℕ Fault S
piece_step after st = do
  p ← piece
  pure (after st p)

-- a byte that is an element by itself, and no quote
abbrev pub is_plain : ℕ → Bool
is_plain b = not (nat_lt b 32 || (b == 34) || (b == 92) || (b == 127))

-- what is made of such bytes
abbrev pub after_bytes : {S : Type 0} → (S → Piece → S) → S → List ℕ → S
after_bytes after st [] = st
after_bytes after st (b ∷ s) = after_bytes after (after st (Byte b)) s

-- the elements of a string, of which only their being there counts
unfoldable pub skip_piece : Elements → Format ℕ Fault Elements
skip_piece st = do
  p ← piece
  pure st

pub skip_takes : TakesItem {F = Fault} string_goes skip_piece
unfolding skip_piece piece
skip_takes = takes_least string_goes skip_piece (λ st. omega arith)

unfoldable pub skip_pieces : Format ℕ Fault Elements
skip_pieces = run broken string_goes skip_piece skip_takes (record {})

-- a string in its quotes
unfoldable pub quoted : Format ℕ Fault (Unit {0})
quoted = do
  begin ← item broken (this 34)
  elements ← skip_pieces
  close ← item broken (this 34)
  pure tt

unfoldable pub string_text : Format ℕ Fault (Unit {0})
string_text = only (λ x text. is_utf8 text) char_here quoted

-- what is wrong in a string stands at its opening quote
unfoldable pub string : Format ℕ Fault (Unit {0})
string = whole inside string_text
