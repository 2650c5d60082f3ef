-- Bodies: one turn after the other (WebAssembly 1.0, 6.5.8 and 6.6.5), where at most so many blocks may be in one another.
use Rattle.std.specs.Prelude.{◌&&◌, ◌==◌, ℕ, Bool, not, List, length}
use Rattle.std.proofs.Common.{arith}
use Rattle.ms_bytes.specs.Do.{◌>>=◌}
use Rattle.ms_bytes.specs.Parts.{choose_least, pure}
use Rattle.ms_bytes.specs.Runs.{TakesItem}
use Rattle.ms_bytes.specs.RunLaws.{takes_least}
use Rattle.ms_bytes.specs.Repetition.{run}
use Rattle.ms_text_lex.specs.declared.token.Token.{Token}
use Rattle.ms_text_grammar.specs.declared.fault.TextFault.{TextFault}
use Rattle.ms_text_grammar.specs.declared.surface.Body.{Body}
use Rattle.ms_text_grammar.specs.Tokens.{closes}
use Rattle.ms_text_grammar.specs.Faults.{Textual, bad}
use Rattle.ms_text_grammar.specs.Advances.{State, first_state, folded, sign_of, advance_on}
use Rattle.ms_text_grammar.specs.AdvanceLaws.{advance_on_least}

abbrev pub body_of : State → Body
body_of st = record { uses = st.uses; ops = st.ops }

module _ (source : List ℕ) (most : ℕ) where
  unfoldable pub advance : State → Textual State
  advance st = choose_least 1 (sign_of source) (advance_on source most st st.frames) (advance_on_least source most st st.frames)

  -- up to the parenthesis that closes what the body is in
  abbrev pub body_goes : State → List Token → Bool
  body_goes st s = not ((length st.frames == 0) && closes s)

  pub advance_takes : TakesItem {F = TextFault} body_goes advance
  unfolding advance
  advance_takes = takes_least body_goes advance (λ st. omega arith)

  unfoldable pub body : Textual Body
  body = do
    last ← run (bad source) body_goes advance advance_takes first_state
    pure (body_of last)

  -- while frames are open
  abbrev pub inside_goes : State → List Token → Bool
  inside_goes st s = not (length st.frames == 0)

  pub inside_takes : TakesItem {F = TextFault} inside_goes advance
  unfolding advance
  inside_takes = takes_least inside_goes advance (λ st. omega arith)

  -- one folded instruction
  unfoldable pub folded_body : Textual Body
  folded_body = do
    first ← folded source most first_state
    last ← run (bad source) inside_goes advance inside_takes first
    pure (body_of last)
