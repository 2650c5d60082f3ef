-- Character constants (C11, 6.4.4.4) and string literals (6.4.5).
use Rattle.std.specs.Prelude.{◌==◌, ◌+◌, ◌*◌, ◌≤◌, not, ℕ, Bool, false, List, [], ◌∷◌, ◌++◌, Option, Some, None, nat_le, if◌then◌else◌}
use Rattle.std.proofs.Common.{arith}
use Rattle.ms_bytes.specs.Spot.{place_of}
use Rattle.ms_bytes.specs.Format.{Format}
use Rattle.ms_bytes.specs.Parts.{choose, choose_least, either, item, never, pure}
use Rattle.ms_bytes.specs.Runs.{TakesItem}
use Rattle.ms_bytes.specs.RunLaws.{takes_least}
use Rattle.ms_bytes.specs.Repetition.{run}
use Rattle.ms_bytes.specs.Tests.{check, longest}
use Rattle.c_lex.specs.declared.class.Base.{Base}
use Rattle.c_lex.specs.declared.class.Base.TheVariants.{Hexadecimal, Octal}
use Rattle.c_lex.specs.declared.literals.Character.{Character}
use Rattle.c_lex.specs.declared.literals.Escape.{Escape}
use Rattle.c_lex.specs.declared.literals.Escape.TheVariants as escapes
use Rattle.c_lex.specs.declared.literals.Seen.{Seen}
use Rattle.c_lex.specs.declared.literals.Seen.TheVariants.{Many, Nothing, One}
use Rattle.c_lex.specs.Classes.{is_digit, worth}
use Rattle.c_lex.specs.Fault.{Fault, any, char_at, char_here, unclosed, ◌>>=◌}
use Rattle.c_lex.specs.Fault as fault
use Rattle.c_lex.specs.Marks.{named}
use Rattle.c_lex.specs.Numbers.{value_of}

-- a byte that may stand in a literal: any but the line's end
abbrev pub in_line : ℕ → Option ℕ
in_line b = if b == 10 then None else Some b

abbrev pub this : ℕ → ℕ → Option ℕ
this a b = if b == a then Some b else None

-- what is wrong with an escape that begins at `back` in the literal at `at`: the line or the text ends, or it is none
abbrev pub broken_by : ℕ → ℕ → List ℕ → Fault
broken_by at back [] = fault.Unclosed at
broken_by at back (b ∷ s) = if b == 10 then fault.Unclosed at else fault.Char back

abbrev pub broken : ℕ → ℕ → ℕ → List ℕ → Fault
broken at back end s = broken_by at back s

-- ---- escapes (6.4.4.4, 3 to 9)

-- simple escapes: the letter, and the byte that it stands for
abbrev pub simple_rows : List (ℕ × ℕ)
simple_rows = (39, 39) ∷ (34, 34) ∷ (63, 63) ∷ (92, 92) ∷ (97, 7) ∷ (98, 8) ∷ (102, 12) ∷ (110, 10) ∷ (114, 13) ∷ (116, 9) ∷ (118, 11) ∷ []

abbrev pub simple_or_none : Option ℕ → Escape
simple_or_none None = escapes.Wrong
simple_or_none (Some b) = escapes.Simple b

-- what stands behind a backslash
abbrev pub escape_of : List ℕ → Escape
escape_of [] = escapes.Wrong
escape_of (b ∷ s) = if is_digit Octal b then escapes.Octal else if b == 120 then escapes.Hexadecimal else simple_or_none (named simple_rows b)

-- the value of an escape, which is one byte
unfoldable pub in_range : ℕ → ℕ → Format ℕ Fault ℕ
in_range back v = do
  fits ← check (char_at back) (nat_le v 255)
  pure v

-- a digit of a base, and what it is worth
abbrev pub digit_of : Base → ℕ → Option ℕ
digit_of base b = if is_digit base b then Some (worth b) else None

-- the octal digit that is next
abbrev pub octal_next : List ℕ → Option ℕ
octal_next [] = None
octal_next (b ∷ s) = digit_of Octal b

unfoldable pub with_octal : ℕ → Option ℕ → Format ℕ Fault ℕ
with_octal v None = pure v
with_octal v (Some d) = do
  b ← item char_here any
  pure (v * 8 + d)

-- one octal digit more, if one is next
unfoldable pub more_octal : ℕ → Format ℕ Fault ℕ
more_octal v = choose octal_next (with_octal v)

-- one to three octal digits
unfoldable pub octal_escape : ℕ → Format ℕ Fault ℕ
octal_escape back = do
  first ← item char_here (digit_of Octal)
  second ← more_octal first
  third ← more_octal second
  in_range back third

-- x, and all hexadecimal digits that stand behind it
unfoldable pub hexadecimal_escape : ℕ → ℕ → Format ℕ Fault ℕ
hexadecimal_escape at back = do
  x ← item char_here any
  first ← item (broken at back) (digit_of Hexadecimal)
  digits ← longest (is_digit Hexadecimal)
  in_range back (value_of Hexadecimal first digits)

-- an escape behind the backslash at `back`, in the literal at `at`
unfoldable pub behind_escape : ℕ → ℕ → Escape → Format ℕ Fault ℕ
behind_escape at back (escapes.Simple v) = do
  b ← item char_here any
  pure v
behind_escape at back escapes.Octal = octal_escape back
behind_escape at back escapes.Hexadecimal = hexadecimal_escape at back
behind_escape at back escapes.Wrong = never (broken at back)

unfoldable pub escape : ℕ → ℕ → Format ℕ Fault ℕ
escape at back = choose escape_of (behind_escape at back)

-- ---- a byte or an escape

unfoldable pub behind_first : ℕ → ℕ → ℕ → Format ℕ Fault ℕ
behind_first at back b = either (b == 92) (escape at back) (pure b)

unfoldable pub piece_at : ℕ → ℕ → Format ℕ Fault ℕ
piece_at at back = do
  b ← item (unclosed at) in_line
  behind_first at back b

pub piece_least : (at back : ℕ) → 1 ≤ (piece_at at back).least
unfolding piece_at
piece_least at back = omega arith

-- a piece of the literal at `at`, in a text of so many bytes
unfoldable pub piece : ℕ → ℕ → Format ℕ Fault ℕ
piece size at = choose_least 1 (place_of size) (piece_at at) (piece_least at)

-- ---- string literals

-- where a string literal begins, and its bytes so far
pub record Text : Type 0 where
  pub at : ℕ
  pub bytes : List ℕ

abbrev pub string_goes : Text → List ℕ → Bool
string_goes text [] = false
string_goes text (b ∷ s) = not (b == 34)

unfoldable pub string_step : ℕ → Text → Format ℕ Fault Text
string_step size text = do
  b ← piece size text.at
  pure (record { at = text.at; bytes = text.bytes ++ b ∷ [] })

pub string_takes : (size : ℕ) → TakesItem {F = Fault} string_goes (string_step size)
unfolding string_step piece
string_takes size = takes_least string_goes (string_step size) (λ text. omega arith)

unfoldable pub string_inside : ℕ → ℕ → Format ℕ Fault Text
string_inside size at = run char_here string_goes (string_step size) (string_takes size) (record { at = at; bytes = [] })

unfoldable pub string : ℕ → ℕ → Format ℕ Fault Text
string size at = do
  quote ← item (unclosed at) any
  text ← string_inside size at
  close ← item (unclosed at) (this 34)
  pure text

-- ---- character constants

abbrev pub after : Seen → ℕ → Seen
after Nothing b = One b
after (One a) b = Many
after Many b = Many

abbrev pub character_goes : Character → List ℕ → Bool
character_goes c [] = false
character_goes c (b ∷ s) = not (b == 39)

unfoldable pub character_step : ℕ → Character → Format ℕ Fault Character
character_step size c = do
  b ← piece size c.at
  pure (record { at = c.at; seen = after c.seen b })

pub character_takes : (size : ℕ) → TakesItem {F = Fault} character_goes (character_step size)
unfolding character_step piece
character_takes size = takes_least character_goes (character_step size) (λ c. omega arith)

unfoldable pub character_inside : ℕ → ℕ → Format ℕ Fault Character
character_inside size at = run char_here character_goes (character_step size) (character_takes size) (record { at = at; seen = Nothing })

-- exactly one
unfoldable pub only_one : ℕ → Seen → Format ℕ Fault ℕ
only_one at Nothing = never (char_at at)
only_one at (One b) = pure b
only_one at Many = never (char_at at)

unfoldable pub character : ℕ → ℕ → Format ℕ Fault ℕ
character size at = do
  quote ← item (unclosed at) any
  c ← character_inside size at
  close ← item (unclosed at) (this 39)
  only_one at c.seen
