-- Lists by their places, and labels among them.
use Rattle.std.proofs.Common.{◌≡◌, ℕ, zero, suc, ◌+◌, true, false, List, [], ◌∷◌, Option, Some, drop, refl, ap, add-one, slice_get}
use Rattle.ms_text_lex.specs.declared.token.Token.{Token}
use Rattle.ms_text_grammar.specs.Identifiers.{found, is_named}

drop_suc : {A : Type 0} (xs : List A) (i : ℕ) (x : A) → slice_get xs i ≡ Some x → drop i xs ≡ x ∷ drop (suc i) xs
drop_suc [] zero x e = absurd cc
drop_suc [] (suc i) x e = absurd cc
drop_suc (y ∷ ys) zero x e = let h : y ≡ x = cc in ap (λ z. z ∷ ys) h
drop_suc (y ∷ ys) (suc i) x e = drop_suc ys i x e

pub found_here : (source : List ℕ) (labels : List (Option Token)) (id : Token) (d : ℕ) (label : Option Token) → slice_get labels d ≡ Some label → is_named source label id ≡ true → found source (drop d labels) id d ≡ Some d
found_here source labels id d label e named = rw (drop_suc labels d label e, named) refl

pub found_past : (source : List ℕ) (labels : List (Option Token)) (id : Token) (d : ℕ) (label : Option Token) → slice_get labels d ≡ Some label → is_named source label id ≡ false → found source (drop (d + 1) labels) id (d + 1) ≡ found source (drop d labels) id d
found_past source labels id d label e named = rw (drop_suc labels d label e, named, add-one) refl
