-- The parts that formats of tokens are made of: parentheses, words, identifiers, strings, groups in parentheses, lists.
use Rattle.std.specs.Prelude.{◌≤◌, ◌&&◌, not, ℕ, Bool, true, false, List, Option, Some, None}
use Rattle.std.specs.Str.{is_utf8}
use Rattle.std.proofs.Common.{arith}
use Rattle.ms_bytes.specs.Do.{◌>>=◌}
use Rattle.ms_bytes.specs.Parts.{choose, item, never, pure}
use Rattle.ms_bytes.specs.Runs.{TakesItem}
use Rattle.ms_bytes.specs.RunLaws.{takes_least}
use Rattle.ms_bytes.specs.Repetition.{run}
use Rattle.ms_text_lex.specs.declared.token.Token.{Token}
use Rattle.ms_text_lex.specs.Values.{value_of}
use Rattle.ms_text_grammar.specs.declared.fault.TextFault.{TextFault}
use Rattle.ms_text_grammar.specs.declared.word.Word.{Word}
use Rattle.ms_text_grammar.specs.Keywords.{spelling}
use Rattle.ms_text_grammar.specs.Tokens.{begins, begins_id, closes, is_close, is_id, is_open, is_text, is_word, opens}
use Rattle.ms_text_grammar.specs.Faults.{Textual, bad, kept}

module _ (source : List ℕ) where
  -- a token that passes a test
  abbrev pub one : (Token → Bool) → Textual Token
  one test = item (bad source) (λ t. kept (test t) t)

  abbrev pub opening : Textual Token
  opening = one (λ t. is_open t.kind)

  abbrev pub closing : Textual Token
  closing = one (λ t. is_close t.kind)

  -- the keyword of this text
  abbrev pub keyword : List ℕ → Textual Token
  keyword text = one (is_word source text)

  abbrev pub the : Word → Textual Token
  the word = keyword (spelling word)

  abbrev pub identifier : Textual Token
  identifier = one (λ t. is_id t.kind)

  -- any string (6.3.3)
  abbrev pub string : Textual Token
  string = one (λ t. is_text t.kind)

  -- a string that is UTF-8 (6.3.4)
  abbrev pub name : Textual Token
  name = one (λ t. is_text t.kind && is_utf8 (value_of source t))

  -- ---- what may be there

  unfoldable pub id_by : Bool → Textual (Option Token)
  id_by true = do
    id ← identifier
    pure (Some id)
  id_by false = pure None

  -- an identifier, if there is one
  unfoldable pub optional_id : Textual (Option Token)
  optional_id = choose begins_id id_by

  unfoldable pub group_ends : Bool → Textual (Unit {0})
  group_ends true = do
    begin ← opening
    never (bad source)
  group_ends false = pure tt

  -- No group, where others might have stood: behind an opening parenthesis, the word is wrong.
  unfoldable pub no_group : Textual (Unit {0})
  no_group = choose opens group_ends

  -- ---- groups: a parenthesis, a word, what is inside, a parenthesis

  module _ {A : Type 0} (word : Word) (inside : A → Textual A) where
    unfoldable pub group : A → Textual A
    group x = do
      begin ← opening
      head ← the word
      new ← inside x
      close ← closing
      pure new

    abbrev pub group_goes : A → List Token → Bool
    group_goes x s = begins source word s

    pub group_takes : TakesItem {F = TextFault} group_goes group
    unfolding group
    group_takes = takes_least group_goes group (λ x. omega arith)

    -- as many as there are
    unfoldable pub groups : A → Textual A
    groups x = run (bad source) group_goes group group_takes x

  -- ---- lists up to a closing parenthesis

  abbrev pub list_goes : {A : Type 0} → A → List Token → Bool
  list_goes x s = not (closes s)

  unfoldable pub listed : {A : Type 0} → (step : A → Textual A) → ((x : A) → 1 ≤ (step x).least) → A → Textual A
  listed step enough x = run (bad source) list_goes step (takes_least list_goes step enough) x
