-- The first of some words that a text is, looked for one by one.
use Rattle.std.proofs.Common.{◌≡◌, ℕ, suc, ◌+◌, ◌<◌, ◌≤◌, List, ◌∷◌, true, false, cond, drop, get_or, length, Some, None, ap, sym, ◌∙◌, arith}
use Rattle.std.proofs.lemmas.List.{drop_all}
use Rattle.std.proofs.Math.Seq.{drop-cons}
use Rattle.ms_text_grammar.specs.Fields.{among}
use Rattle.ms_text_grammar.specs.Keywords.{spelling}
use Rattle.ms_text_grammar.specs.declared.word.Word.{Word}
use Rattle.std.specs.Str.{bytes_eq}

module _ (words : List Word) (i : ℕ) (d : Word) (text : List ℕ) (within : i < length words) where
  here : drop i words ≡ get_or words i d ∷ drop (i + 1) words
  here = let one : suc i ≡ i + 1 = omega arith in drop-cons words i d within ∙ ap (λ k. get_or words i d ∷ drop k words) one

  pub among_first : true ≡ bytes_eq text (spelling (get_or words i d)) → among (drop i words) text ≡ Some (get_or words i d)
  among_first is = ap (λ ws. among ws text) here ∙ ap (λ b. cond b (Some (get_or words i d)) (among (drop (i + 1) words) text)) (sym is)

  pub among_others : false ≡ bytes_eq text (spelling (get_or words i d)) → among (drop (i + 1) words) text ≡ among (drop i words) text
  among_others is = sym (ap (λ ws. among ws text) here ∙ ap (λ b. cond b (Some (get_or words i d)) (among (drop (i + 1) words) text)) (sym is))

pub among_none : (words : List Word) (i : ℕ) (text : List ℕ) → length words ≤ i → among (drop i words) text ≡ None
among_none words i text past = ap (λ ws. among ws text) (drop_all i words past)
