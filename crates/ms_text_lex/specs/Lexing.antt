-- Tokens of the text format (WebAssembly 1.0, 6.2), and what stands between them.
use Rattle.std.specs.Prelude.{◌≡◌, ◌==◌, ◌≤◌, ℕ, Bool, true, false, List, [], ◌∷◌, ◌++◌, length, Err, if◌then◌else◌}
use Rattle.std.proofs.Common.{arith}
use Rattle.ms_bytes.specs.Spot.{first_is, place_of}
use Rattle.ms_bytes.specs.Format.{Format}
use Rattle.ms_bytes.specs.Parts.{choose_least, item, never, pure}
use Rattle.ms_bytes.specs.Runs.{TakesItem}
use Rattle.ms_bytes.specs.RunLaws.{takes_least}
use Rattle.ms_bytes.specs.Repetition.{run}
use Rattle.ms_bytes.specs.Tests.{longest, seen, from_text}
use Rattle.ms_text_lex.specs.declared.class.Class.TheVariants.{Blank, IdChar}
use Rattle.ms_text_lex.specs.declared.leads.Lead.{Lead}
use Rattle.ms_text_lex.specs.declared.leads.Lead.TheVariants as leads
use Rattle.ms_text_lex.specs.declared.token.Kind.{Kind}
use Rattle.ms_text_lex.specs.declared.token.Kind.TheVariants.{Close, Open, Text}
use Rattle.ms_text_lex.specs.declared.token.Token.{Token}
use Rattle.ms_text_lex.specs.Classes.{is_blank, is_idchar, is_in}
use Rattle.ms_text_lex.specs.Comments.{block_comment, comment_text, line_comment, line_text, utf8_comment}
use Rattle.ms_text_lex.specs.Fault.{Fault, any, broken, char_here, ◌>>=◌}
use Rattle.ms_text_lex.specs.Strings.{quoted, string, string_text}
use Rattle.ms_text_lex.specs.Words.{kind_of}

-- the longest run of identifier characters, and what it is
unfoldable pub word : Format ℕ Fault Kind
word = from_text kind_of (item char_here any >>= λ first. longest (is_in IdChar))

-- what begins with a byte and those behind it
abbrev pub lead_by : ℕ → List ℕ → Lead
lead_by b s =
    if is_blank b then leads.Blanks else
    if b == 59 then (if first_is 59 s then leads.LineComment else leads.Nothing) else
    if b == 40 then (if first_is 59 s then leads.BlockComment else leads.Open) else
    if b == 41 then leads.Close else
    if b == 34 then leads.Quote else
    if is_idchar b then leads.Word else leads.Nothing

abbrev pub lead_of : List ℕ → Lead
lead_of [] = leads.Nothing
lead_of (b ∷ s) = lead_by b s

-- the place of what is left, in a text of so many bytes
unfoldable pub here : ℕ → Format ℕ Fault ℕ
here size = seen (place_of size)

abbrev pub token : Kind → ℕ → ℕ → Token
token kind at end = record { kind = kind; at = at; end = end }

-- what begins at a place behind the tokens so far, in a text of so many bytes
unfoldable pub behind : ℕ → List Token → ℕ → Lead → Format ℕ Fault (List Token)
behind size ts at leads.Blanks = do
  first ← item char_here any
  more ← longest (is_in Blank)
  pure ts
behind size ts at leads.LineComment = do
  text ← line_comment
  pure ts
behind size ts at leads.BlockComment = do
  text ← block_comment
  pure ts
behind size ts at leads.Open = do
  b ← item char_here any
  end ← here size
  pure (ts ++ token Open at end ∷ [])
behind size ts at leads.Close = do
  b ← item char_here any
  end ← here size
  pure (ts ++ token Close at end ∷ [])
behind size ts at leads.Quote = do
  text ← string
  end ← here size
  pure (ts ++ token Text at end ∷ [])
behind size ts at leads.Word = do
  kind ← word
  end ← here size
  pure (ts ++ token kind at end ∷ [])
behind size ts at leads.Nothing = never char_here

-- each takes a byte
pub behind_least : (size : ℕ) (ts : List Token) (at : ℕ) (lead : Lead) → 1 ≤ (behind size ts at lead).least
unfolding behind line_comment line_text block_comment utf8_comment comment_text string string_text quoted word
behind_least size ts at leads.Blanks = omega arith
behind_least size ts at leads.LineComment = omega arith
behind_least size ts at leads.BlockComment = omega arith
behind_least size ts at leads.Open = omega arith
behind_least size ts at leads.Close = omega arith
behind_least size ts at leads.Quote = omega arith
behind_least size ts at leads.Word = omega arith
behind_least size ts at leads.Nothing = omega arith

unfoldable pub lexeme : ℕ → List Token → Format ℕ Fault (List Token)
lexeme size ts = choose_least {K = ℕ × Lead} 1 (λ s. (place_of size s, lead_of s)) (λ p. behind size ts p.0 p.1) (λ p. behind_least size ts p.0 p.1)

-- up to the end
abbrev pub lexing_goes : List Token → List ℕ → Bool
lexing_goes ts [] = false
lexing_goes ts (b ∷ s) = true

pub lexeme_takes : (size : ℕ) → TakesItem {F = Fault} lexing_goes (lexeme size)
unfolding lexeme
lexeme_takes size = takes_least lexing_goes (lexeme size) (λ ts. omega arith)

unfoldable pub lexemes : ℕ → Format ℕ Fault (List Token)
lexemes size = run broken lexing_goes (lexeme size) (lexeme_takes size) []

-- These bytes are a list of these tokens.
abbrev pub Lexes : List ℕ → List Token → Type 0
Lexes bytes tokens = (lexemes (length bytes)).spelled bytes tokens []

-- Read from left to right, these bytes have their first fault there.
abbrev pub LexStops : List ℕ → Fault → Type 0
LexStops bytes fault = (lexemes (length bytes)).read (length bytes) bytes ≡ Err fault
