-- The first words of a line tell what all of them tell.
use Rattle.std.proofs.Common.{◌≡◌, ◌∙◌, ◌<◌, ◌≤◌, ℕ, ◌&&◌, Bool, true, false, cond, List, [], ◌∷◌, Option, None, length, take, map, Bor, codes, nat_le, nat_lt, refl, ap, sym, leb-true, arith}
use Rattle.std.specs.Str.{bytes_eq}
use Rattle.std.proofs.lemmas.Bool.{leb-false, lt-leb}
use Rattle.std.proofs.lemmas.List.{length-take, take_all}
use Rattle.ms_job.specs.Jobs.{most_lines, with_reach, with_words}
use Rattle.ms_job.specs.declared.draft.Draft.{Draft}

refused : (a b : Bool) (x : Option Draft) → b ≡ false → cond (a && b) x None ≡ None
refused true true x e = absurd (cc)
refused true false x e = refl
refused false b x e = refl

few : (d : Draft) (word : List ℕ) (names : List (List ℕ)) (b : Bool) → nat_le (length names) most_lines ≡ b
    → with_reach d word (take 65 names) ≡ with_reach d word names
few d word names true e = ap (with_reach d word) (take_all 65 names (omega (arith, leb-true (length names) 64 e)))
few d word names false e =
    let past : 64 < length names = leb-false (length names) 64 e in
    let cut : nat_le (length (take 65 names)) most_lines ≡ false = lt-leb (length (take 65 names)) 64 (omega (arith, length-take 65 names, past)) in
    let a = nat_lt (length d.reach) most_lines in
    refused a (nat_le (length (take 65 names)) most_lines) _ cut ∙ sym (refused a (nat_le (length names) most_lines) _ e)

pub first_words : (d : Draft) (words : List (List ℕ)) → with_words d (take 67 words) ≡ with_words d words
first_words d [] = refl
first_words d (word ∷ []) = refl
first_words d (word ∷ x ∷ []) = refl
first_words d (word ∷ x ∷ y ∷ []) = refl
first_words d (word ∷ x ∷ y ∷ z ∷ more) =
    ap (λ (o : Option Draft). cond (bytes_eq word (codes "reach")) o None) (few d x (y ∷ z ∷ more) (nat_le (length (y ∷ z ∷ more)) most_lines) refl)

-- a line of four words or more
pub many_words : (d : Draft) (word x : List ℕ) (more : List (Bor (List ℕ))) → 2 ≤ length more
    → with_words d (word ∷ x ∷ map (λ w. w.now) more) ≡ cond (bytes_eq word (codes "reach")) (with_reach d x (map (λ w. w.now) more)) None
many_words d word x [] h = absurd (omega arith)
many_words d word x (y ∷ []) h = absurd (omega arith)
many_words d word x (y ∷ z ∷ more) h = refl
