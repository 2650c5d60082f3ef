-- Lists, and the first numbers, so many: where a number stands among those that pass a test.
use Rattle.std.proofs.Common.{◌≡◌, ℕ, zero, suc, ◌+◌, ◌<◌, ⊎_elim, List, [], ◌∷◌, ◌++◌, length, Bool, true, false, Option, Some, None, refl, sym, ap, ◌∙◌, arith}
use Rattle.std.specs.Prelude.{cond, filter, nat_lt, slice_get, ◌==◌}
use Rattle.std.proofs.lemmas.Bool.{cases_lt}
use Rattle.std.proofs.lemmas.Option.{slice_get_within}
use Rattle.c_typed.specs.Units.{numbers}

-- ---- lists

module _ {A : Type 0} where
  nth_left : (xs ys : List A) (k : ℕ) → k < length xs → slice_get (xs ++ ys) k ≡ slice_get xs k
  nth_left [] ys k l = absurd (omega (arith, l))
  nth_left (x ∷ xs) ys zero l = refl
  nth_left (x ∷ xs) ys (suc k) l = nth_left xs ys k (omega (arith, l))

  pub slice_left : (xs ys : List A) (n : ℕ) (x : A) → slice_get xs n ≡ Some x → slice_get (xs ++ ys) n ≡ Some x
  slice_left xs ys n x e = nth_left xs ys n (slice_get_within xs n x e) ∙ e

  -- an element at the end passes a test, or not
  kept_last : (p : A → Bool) (xs : List A) (y : A) → p y ≡ true → filter p (xs ++ y ∷ []) ≡ filter p xs ++ y ∷ []
  kept_last p [] y e = ap (λ (b : Bool). cond b (y ∷ []) []) e
  kept_last p (x ∷ xs) y e = by (p x) (kept_last p xs y e) where
    by : (b : Bool) → filter p (xs ++ y ∷ []) ≡ filter p xs ++ y ∷ []
        → cond b (x ∷ filter p (xs ++ y ∷ [])) (filter p (xs ++ y ∷ [])) ≡ cond b (x ∷ filter p xs) (filter p xs) ++ y ∷ []
    by true h = ap (λ (l : List A). x ∷ l) h
    by false h = h

  dropped_last : (p : A → Bool) (xs : List A) (y : A) → p y ≡ false → filter p (xs ++ y ∷ []) ≡ filter p xs
  dropped_last p [] y e = ap (λ (b : Bool). cond b (y ∷ []) []) e
  dropped_last p (x ∷ xs) y e = ap (λ (l : List A). cond (p x) (x ∷ l) l) (dropped_last p xs y e)

never_ends : (xs : List ℕ) (k : ℕ) → xs ++ k ∷ [] ≡ [] → ⊥
never_ends [] k e = absurd cc
never_ends (x ∷ xs) k e = absurd cc

-- ---- the first numbers, so many

-- none of them passes, so this one doesn't
pub never_passes : (p : ℕ → Bool) (k : ℕ) → filter p (numbers k) ≡ [] → (n : ℕ) → n < k → p n ≡ false
never_passes p zero e n lt = absurd (omega (arith, lt))
never_passes p (suc k) e n lt = ⊎_elim (λ l. never_passes p k (front (p k) refl) n l) (λ g. ap p (let q : n ≡ k = omega (arith, lt, g) in q) ∙ last (p k) refl) (cases_lt n k) where
  front : (b : Bool) → p k ≡ b → filter p (numbers k) ≡ []
  front true q = absurd (never_ends (filter p (numbers k)) k (sym (kept_last p (numbers k) k q) ∙ e))
  front false q = sym (dropped_last p (numbers k) k q) ∙ e

  last : (b : Bool) → p k ≡ b → p k ≡ false
  last true q = absurd (never_ends (filter p (numbers k)) k (sym (kept_last p (numbers k) k q) ∙ e))
  last false q = q

abbrev pub from : (first count : ℕ) → List ℕ
from k zero = []
from k (suc n) = k ∷ from (suc k) n

from_more : (k n : ℕ) → from k (suc n) ≡ from k n ++ (k + n) ∷ []
from_more k zero = ap (λ (m : ℕ). m ∷ []) (let z : k ≡ k + 0 = omega arith in z)
from_more k (suc n) =
    ap (λ (l : List ℕ). k ∷ l) (from_more (suc k) n)
    ∙ ap (λ (m : ℕ). k ∷ (from (suc k) n ++ m ∷ [])) (let z : suc k + n ≡ k + suc n = omega arith in z)

pub numbers_are : (n : ℕ) → numbers n ≡ from 0 n
numbers_are zero = refl
numbers_are (suc n) =
    ap (λ (l : List ℕ). l ++ n ∷ []) (numbers_are n)
    ∙ ap (λ (m : ℕ). from 0 n ++ m ∷ []) (let z : n ≡ 0 + n = omega arith in z) ∙ sym (from_more 0 n)

pub same : (m n : ℕ) → m ≡ n → m == n ≡ true
same m n e = grind (arith, e)

pub other : (m n : ℕ) → m < n → m == n ≡ false
other m n lt = grind (arith, lt)

pub is_below : (m n : ℕ) → m < n → nat_lt m n ≡ true
is_below m n lt = grind (arith, lt)

abbrev pub or_zero : Option ℕ → ℕ
or_zero None = 0
or_zero (Some i) = i
