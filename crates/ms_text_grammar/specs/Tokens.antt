-- Tokens of a source, and what is told by looking at those in front.
use Rattle.std.specs.Prelude.{◌&&◌, ◌||◌, ℕ, Bool, true, false, List, [], ◌∷◌}
use Rattle.std.specs.Str.{bytes_eq}
use Rattle.ms_text_lex.specs.declared.token.Kind.{Kind}
use Rattle.ms_text_lex.specs.declared.token.Kind.TheVariants.{Close, Id, Keyword, Number, Open, Text}
use Rattle.ms_text_lex.specs.declared.token.Token.{Token}
use Rattle.ms_text_lex.specs.Tokens.{text_of}
use Rattle.ms_text_grammar.specs.declared.word.Word.{Word}
use Rattle.ms_text_grammar.specs.Keywords.{spelling}

-- a source, and the tokens of it that are left
pub record Spot : Type 0 where
  pub source : List ℕ
  pub left : List Token

abbrev pub is_keyword : Kind → Bool
is_keyword Keyword = true
is_keyword _ = false

abbrev pub is_open : Kind → Bool
is_open Open = true
is_open _ = false

abbrev pub is_close : Kind → Bool
is_close Close = true
is_close _ = false

abbrev pub is_id : Kind → Bool
is_id Id = true
is_id _ = false

abbrev pub is_number : Kind → Bool
is_number Number = true
is_number _ = false

abbrev pub is_text : Kind → Bool
is_text Text = true
is_text _ = false

-- whether the token is the keyword of this text
abbrev pub is_word : List ℕ → List ℕ → Token → Bool
is_word source text t = is_keyword t.kind && bytes_eq (text_of source t) text

-- ---- what stands in front

abbrev pub next : (Token → Bool) → List Token → Bool
next test [] = false
next test (t ∷ ts) = test t

abbrev pub opens : List Token → Bool
opens s = next (λ t. is_open t.kind) s

abbrev pub closes : List Token → Bool
closes s = next (λ t. is_close t.kind) s

abbrev pub begins_id : List Token → Bool
begins_id s = next (λ t. is_id t.kind) s

-- a number or an identifier
abbrev pub begins_index : List Token → Bool
begins_index s = next (λ t. is_id t.kind || is_number t.kind) s

-- a parenthesis and this word
abbrev pub begins : List ℕ → Word → List Token → Bool
begins source word [] = false
begins source word (t ∷ ts) = is_open t.kind && next (is_word source (spelling word)) ts
