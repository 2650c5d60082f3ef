-- Tokens of C (C11, 6.4), and what stands between them.
--
-- Not here: line splices, trigraphs, digraphs, prefixes of literals, universal character names, floating constants.
use Rattle.std.specs.Prelude.{◌≡◌, ◌==◌, ◌≤◌, ◌||◌, ◌&&◌, not, ℕ, Bool, true, false, List, [], ◌∷◌, ◌++◌, length, drop, Option, Some, None, Err, codes, if◌then◌else◌}
use Rattle.std.proofs.Common.{arith}
use Rattle.std.specs.Str.{bytes_eq}
use Rattle.ms_bytes.specs.Spot.{place_of}
use Rattle.ms_bytes.specs.Format.{Format}
use Rattle.ms_bytes.specs.Parts.{choose_least, item, never, pure}
use Rattle.ms_bytes.specs.Runs.{TakesItem}
use Rattle.ms_bytes.specs.RunLaws.{takes_least}
use Rattle.ms_bytes.specs.Repetition.{run}
use Rattle.ms_bytes.specs.Tests.{check, longest, marks, seen, from_text}
use Rattle.c_token.specs.declared.word.Mark.{Mark}
use Rattle.c_token.specs.declared.word.Token.{Token}
use Rattle.c_token.specs.declared.word.Word.{Word}
use Rattle.c_token.specs.declared.word.Word.TheVariants as words
use Rattle.c_lex.specs.declared.class.Class.TheVariants.{Blank, Line, Name}
use Rattle.c_lex.specs.declared.comments.Comment.{Comment}
use Rattle.c_lex.specs.declared.leads.Lead.{Lead}
use Rattle.c_lex.specs.declared.leads.Lead.TheVariants as leads
use Rattle.c_lex.specs.declared.numbers.Constant.{Constant}
use Rattle.c_lex.specs.declared.numbers.Constant.TheVariants as constants
use Rattle.c_lex.specs.Classes.{is_decimal, is_in, is_letter}
use Rattle.c_lex.specs.Fault.{Fault, any, char_at, char_here, directive, too_big, unclosed, ◌>>=◌}
use Rattle.c_lex.specs.Keywords.{word_of}
use Rattle.c_lex.specs.Literals.{Text, character, string}
use Rattle.c_lex.specs.Marks.{one, three, two}
use Rattle.c_lex.specs.Numbers.{constant_of}

-- ---- comments (6.4.9)

-- up to the line's end
unfoldable pub line_comment : Format ℕ Fault (Unit {0})
line_comment = do
  first ← item char_here any
  text ← longest (is_in Line)
  pure tt

-- up to `*/`, or up to the end
abbrev pub comment_goes : Comment → List ℕ → Bool
comment_goes comment [] = false
comment_goes comment (a ∷ []) = true
comment_goes comment (a ∷ b ∷ s) = not ((a == 42) && (b == 47))

unfoldable pub comment_step : ℕ → Comment → Format ℕ Fault Comment
comment_step size comment = do
  b ← item (unclosed comment.at) any
  pure comment

pub comment_takes : (size : ℕ) → TakesItem {F = Fault} comment_goes (comment_step size)
unfolding comment_step
comment_takes size = takes_least comment_goes (comment_step size) (λ comment. omega arith)

unfoldable pub comment_inside : ℕ → ℕ → Format ℕ Fault Comment
comment_inside size at = run char_here comment_goes (comment_step size) (comment_takes size) (record { at = at })

-- up to the first `*/` behind its first two bytes
unfoldable pub comment : ℕ → ℕ → Format ℕ Fault (Unit {0})
comment size at = do
  slash ← item (unclosed at) any
  star ← item (unclosed at) any
  inside ← comment_inside size at
  last_star ← item (unclosed at) any
  last_slash ← item (unclosed at) any
  pure tt

-- ---- inclusions (6.10.2)

abbrev pub is_header : List ℕ → Bool
is_header name = bytes_eq name (codes "stdio") || bytes_eq name (codes "stdlib") || bytes_eq name (codes "stddef")

abbrev pub ends_line : List ℕ → Bool
ends_line [] = true
ends_line (b ∷ s) = b == 10

-- a line of an inclusion from its `#` on, up to its end
unfoldable pub inclusion : ℕ → Format ℕ Fault (Unit {0})
inclusion at = do
  hash ← item (directive at) any
  blanks ← longest (is_in Blank)
  word ← marks (directive at) (codes "include")
  more ← longest (is_in Blank)
  begin ← marks (directive at) (codes "<")
  name ← longest (is_in Name)
  known ← check (directive at) (is_header name)
  end ← marks (directive at) (codes ".h>")
  last ← longest (is_in Blank)
  ends ← seen ends_line
  check (directive at) ends

-- ---- words

-- the longest run of letters, digits and `_`
unfoldable pub word_text : Format ℕ Fault (List ℕ)
word_text = from_text (λ text. text) (item char_here any >>= λ first. longest (is_in Name))

-- what a run that begins with a digit is, if it is a constant
unfoldable pub constant_word : ℕ → Constant → Format ℕ Fault Word
constant_word at (constants.Is v t) = pure (words.Integer v t)
constant_word at constants.TooLarge = never (too_big at)
constant_word at constants.Wrong = never (char_at at)

-- ---- what begins

abbrev pub mark_lead : Option Mark → Option Mark → Option Mark → Lead
mark_lead (Some m) b a = leads.Three m
mark_lead None (Some m) a = leads.Two m
mark_lead None None (Some m) = leads.One m
mark_lead None None None = leads.Nothing

-- what begins with the bytes a, b, c; fresh: the line has only blanks before it
abbrev pub lead_by : Bool → ℕ → ℕ → ℕ → Lead
lead_by fresh a b c =
    if is_in Blank a then leads.Blanks else
    if a == 10 then leads.LineEnd else
    if is_letter a then leads.Identifier else
    if is_decimal a then leads.Number else
    if a == 34 then leads.Quote else
    if a == 39 then leads.Apostrophe else
    if a == 35 then (if fresh then leads.Hash else leads.Nothing) else
    if (a == 47) && (b == 47) then leads.LineComment else
    if (a == 47) && (b == 42) then leads.Comment else
    mark_lead (three a b c) (two a b) (one a)

-- the byte that is next, or 0 at the end, where nothing goes on
abbrev pub next_byte : List ℕ → ℕ
next_byte [] = 0
next_byte (b ∷ s) = b

abbrev pub lead_of : Bool → List ℕ → Lead
lead_of fresh [] = leads.Nothing
lead_of fresh (a ∷ s) = lead_by fresh a (next_byte s) (next_byte (drop 1 s))

-- ---- tokens

-- The tokens so far, but for a string literal at their end, which the next one may join (5.1.1.2, phase 6); and whether
-- the line, which did not begin inside a comment, has only blanks so far.
pub record Lexed : Type 0 where
  pub done : List Token
  pub text : Option Text
  pub fresh : Bool

abbrev pub token : ℕ → Word → Token
token at word = record { at = at; word = word }

abbrev pub closed : List Token → Option Text → List Token
closed done None = done
closed done (Some text) = done ++ token text.at (words.String text.bytes) ∷ []

abbrev pub tokens_of : Lexed → List Token
tokens_of st = closed st.done st.text

abbrev pub joined : Option Text → Text → Text
joined None text = text
joined (Some first) text = record { at = first.at; bytes = first.bytes ++ text.bytes }

abbrev pub with_word : Lexed → ℕ → Word → Lexed
with_word st at word = record { done = tokens_of st ++ token at word ∷ []; text = None; fresh = false }

abbrev pub with_text : Lexed → Text → Lexed
with_text st text = record { done = st.done; text = Some (joined st.text text); fresh = false }

abbrev pub with_fresh : Lexed → Bool → Lexed
with_fresh st fresh = record { done = st.done; text = st.text; fresh = fresh }

-- what begins at a place, in a text of so many bytes
unfoldable pub behind : ℕ → Lexed → ℕ → Lead → Format ℕ Fault Lexed
behind size st at leads.Blanks = do
  first ← item char_here any
  more ← longest (is_in Blank)
  pure st
behind size st at leads.LineEnd = do
  b ← item char_here any
  pure (with_fresh st true)
behind size st at leads.LineComment = do
  text ← line_comment
  pure (with_fresh st false)
behind size st at leads.Comment = do
  text ← comment size at
  pure (with_fresh st false)
behind size st at leads.Hash = do
  line ← inclusion at
  pure (with_fresh st false)
behind size st at leads.Identifier = do
  text ← word_text
  pure (with_word st at (word_of text))
behind size st at leads.Number = do
  text ← word_text
  word ← constant_word at (constant_of text)
  pure (with_word st at word)
behind size st at leads.Quote = do
  text ← string size at
  pure (with_text st text)
behind size st at leads.Apostrophe = do
  b ← character size at
  pure (with_word st at (words.Character b))
behind size st at (leads.One m) = do
  a ← item char_here any
  pure (with_word st at (words.Mark m))
behind size st at (leads.Two m) = do
  a ← item char_here any
  b ← item char_here any
  pure (with_word st at (words.Mark m))
behind size st at (leads.Three m) = do
  a ← item char_here any
  b ← item char_here any
  c ← item char_here any
  pure (with_word st at (words.Mark m))
behind size st at leads.Nothing = never (char_at at)

-- each takes a byte
pub behind_least : (size : ℕ) (st : Lexed) (at : ℕ) (lead : Lead) → 1 ≤ (behind size st at lead).least
unfolding behind line_comment comment inclusion word_text string character
behind_least size st at leads.Blanks = omega arith
behind_least size st at leads.LineEnd = omega arith
behind_least size st at leads.LineComment = omega arith
behind_least size st at leads.Comment = omega arith
behind_least size st at leads.Hash = omega arith
behind_least size st at leads.Identifier = omega arith
behind_least size st at leads.Number = omega arith
behind_least size st at leads.Quote = omega arith
behind_least size st at leads.Apostrophe = omega arith
behind_least size st at (leads.One m) = omega arith
behind_least size st at (leads.Two m) = omega arith
behind_least size st at (leads.Three m) = omega arith
behind_least size st at leads.Nothing = omega arith

unfoldable pub lexeme : ℕ → Lexed → Format ℕ Fault Lexed
lexeme size st = choose_least {K = ℕ × Lead} 1 (λ s. (place_of size s, lead_of st.fresh s)) (λ p. behind size st p.0 p.1) (λ p. behind_least size st p.0 p.1)

-- up to the end
abbrev pub lexing_goes : Lexed → List ℕ → Bool
lexing_goes st [] = false
lexing_goes st (b ∷ s) = true

pub lexeme_takes : (size : ℕ) → TakesItem {F = Fault} lexing_goes (lexeme size)
unfolding lexeme
lexeme_takes size = takes_least lexing_goes (lexeme size) (λ st. omega arith)

unfoldable pub lexemes : ℕ → Format ℕ Fault Lexed
lexemes size = run char_here lexing_goes (lexeme size) (lexeme_takes size) (record { done = []; text = None; fresh = true })

unfoldable pub token_list : ℕ → Format ℕ Fault (List Token)
token_list size = do
  st ← lexemes size
  pure (tokens_of st)

-- These bytes are a list of these tokens.
abbrev pub Lexes : List ℕ → List Token → Type 0
Lexes bytes tokens = (token_list (length bytes)).spelled bytes tokens []

-- Read from left to right, these bytes have their first fault there.
abbrev pub Stops : List ℕ → Fault → Type 0
Stops bytes fault = (token_list (length bytes)).read (length bytes) bytes ≡ Err fault
