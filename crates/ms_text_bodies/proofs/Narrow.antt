-- A text that is a keyword is one of its own class.
use Rattle.std.proofs.Common.{◌≡◌, ℕ, Bool, true, false, cond, eqb, List, [], ◌∷◌, Option, Some, None, refl, sym, ap, ◌∙◌}
use Rattle.std.specs.Str.{bytes_eq}
use Rattle.std.proofs.lemmas.Bool.{eq-eqb}
use Rattle.std.proofs.lemmas.Slice.Eq.{bytes_eq-Decides}
use Rattle.ms_module.specs.Instructions.{Row, by_word}
use Rattle.ms_text_grammar.specs.Instructions.{form_of, form_rows}
use Rattle.ms_text_bodies.specs.refinement.Classes.{class_of, of_class, rows_in}

same_text : (xs ys : List ℕ) → bytes_eq xs ys ≡ true → xs ≡ ys
same_text xs ys e = (bytes_eq-Decides xs ys).0 e

same_class : (text word : List ℕ) (b : Bool) → eqb (class_of word) (class_of text) ≡ false → bytes_eq text word ≡ b → b ≡ false
same_class text word true other e =
    let is : class_of word ≡ class_of text = ap class_of (sym (same_text text word e)) in
    absurd (let f : eqb (class_of word) (class_of text) ≡ true = eq-eqb (class_of word) (class_of text) is in cc)
same_class text word false other e = refl

module _ {A : Type 0} where
  by_test : (b : Bool) (r : Row A) (rs : List (Row A)) (text : List ℕ) → eqb (class_of r.word) (class_of text) ≡ b → by_word (of_class (class_of text) rs) text ≡ by_word rs text
      → by_word (cond b (r ∷ of_class (class_of text) rs) (of_class (class_of text) rs)) text ≡ by_word (r ∷ rs) text
  by_test true r rs text e rest = ap (λ (o : Option A). cond (bytes_eq text r.word) (Some r.item) o) rest
  by_test false r rs text e rest = let other : bytes_eq text r.word ≡ false = same_class text r.word (bytes_eq text r.word) e refl in rw other rest

  pub narrow : (rows : List (Row A)) (text : List ℕ) → by_word (of_class (class_of text) rows) text ≡ by_word rows text
  narrow [] text = refl
  narrow (r ∷ rs) text = by_test (eqb (class_of r.word) (class_of text)) r rs text refl (narrow rs text)

pub found : (text : List ℕ) → by_word (rows_in (class_of text)) text ≡ form_of text
unfolding rows_in
found text = narrow form_rows text
