-- What is left of a list that is gone through by its indices.
use Rattle.std.proofs.Common.{◌≡◌, ℕ, zero, suc, ◌+◌, ◌<◌, List, [], ◌∷◌, length, drop, slice_get, Some, None, refl, ap, arith, add-one}

pub past : {A : Type 0} (xs : List A) (n : ℕ) → slice_get xs n ≡ None → drop n xs ≡ []
past [] zero e = refl
past [] (suc n) e = refl
past (x ∷ xs) zero e = absurd cc
past (x ∷ xs) (suc n) e = past xs n e

drop_at : {A : Type 0} (xs : List A) (n : ℕ) (x : A) → slice_get xs n ≡ Some x → drop n xs ≡ x ∷ drop (suc n) xs
drop_at [] n x e = absurd cc
drop_at {A} (y ∷ xs) zero x e = let s : y ≡ x = cc in ap (λ (z : A). z ∷ xs) s
drop_at (y ∷ xs) (suc n) x e = drop_at xs n x e

pub next_at : {A : Type 0} (xs : List A) (n : ℕ) (x : A) → slice_get xs n ≡ Some x → drop n xs ≡ x ∷ drop (n + 1) xs
next_at xs n x e = rw (add-one n) (drop_at xs n x e)

pub among : {A : Type 0} (xs : List A) (n : ℕ) (x : A) → slice_get xs n ≡ Some x → n < length xs
among [] n x e = absurd cc
among (y ∷ xs) zero x e = omega arith
among (y ∷ xs) (suc n) x e = let h = among xs n x e in omega arith
