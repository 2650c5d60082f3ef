-- Punctuators (C11, 6.4.6). `...` is three of them; none is spelled as a digraph.
use Rattle.std.specs.Prelude.{◌==◌, ◌&&◌, ℕ, List, [], ◌∷◌, Option, Some, None, if◌then◌else◌}
use Rattle.c_token.specs.declared.word.Mark.{Mark}
use Rattle.c_token.specs.declared.word.Mark.TheVariants as marks

abbrev pub named : {A : Type 0} → List (ℕ × A) → ℕ → Option A
named [] b = None
named (row ∷ rows) b = if b == row.0 then Some row.1 else named rows b

-- one byte
abbrev pub single_rows : List (ℕ × Mark)
single_rows =
    (40, marks.OpenParen) ∷
    (41, marks.CloseParen) ∷
    (91, marks.OpenBracket) ∷
    (93, marks.CloseBracket) ∷
    (123, marks.OpenBrace) ∷
    (125, marks.CloseBrace) ∷
    (59, marks.Semicolon) ∷
    (44, marks.Comma) ∷
    (46, marks.Dot) ∷
    (38, marks.Ampersand) ∷
    (42, marks.Star) ∷
    (43, marks.Plus) ∷
    (45, marks.Minus) ∷
    (126, marks.Tilde) ∷
    (33, marks.Bang) ∷
    (47, marks.Slash) ∷
    (37, marks.Percent) ∷
    (60, marks.Less) ∷
    (62, marks.Greater) ∷
    (94, marks.Caret) ∷
    (124, marks.Bar) ∷
    (63, marks.Question) ∷
    (58, marks.Colon) ∷
    (61, marks.Equals) ∷
    []

-- a byte, and = behind it
abbrev pub equals_rows : List (ℕ × Mark)
equals_rows =
    (60, marks.LessEqual) ∷
    (62, marks.GreaterEqual) ∷
    (61, marks.EqualEqual) ∷
    (33, marks.NotEqual) ∷
    (43, marks.PlusEqual) ∷
    (45, marks.MinusEqual) ∷
    (42, marks.StarEqual) ∷
    (47, marks.SlashEqual) ∷
    (37, marks.PercentEqual) ∷
    (38, marks.AmpersandEqual) ∷
    (124, marks.BarEqual) ∷
    (94, marks.CaretEqual) ∷
    []

-- a byte, and the same behind it
abbrev pub twice_rows : List (ℕ × Mark)
twice_rows =
    (43, marks.PlusPlus) ∷
    (45, marks.MinusMinus) ∷
    (60, marks.LessLess) ∷
    (62, marks.GreaterGreater) ∷
    (38, marks.AndAnd) ∷
    (124, marks.OrOr) ∷
    []

-- a byte, the same, and = behind them
abbrev pub shift_rows : List (ℕ × Mark)
shift_rows =
    (60, marks.LessLessEqual) ∷
    (62, marks.GreaterGreaterEqual) ∷
    []

abbrev pub one : ℕ → Option Mark
one a = named single_rows a

abbrev pub two : ℕ → ℕ → Option Mark
two a b =
    if b == 61 then named equals_rows a else
    if a == b then named twice_rows a else
    if (a == 45) && (b == 62) then Some marks.Arrow else None

abbrev pub three : ℕ → ℕ → ℕ → Option Mark
three a b c = if (a == b) && (c == 61) then named shift_rows a else None
