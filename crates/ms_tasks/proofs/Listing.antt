-- Equal entries in a row, in a list of entries.
use Rattle.std.proofs.Common.{◌≡◌, ◌+◌, ℕ, zero, suc, List, [], ◌∷◌, ◌++◌, drop, length, replicate, slice_get, Some, take, ◌-◌, refl, sym, ap, ◌∙◌, arith, append_assoc}
use Rattle.std.proofs.Math.Seq.{take-length}
use Rattle.std.proofs.lemmas.List.{length-drop}
use Rattle.ms_tasks.proofs.Chaining.{drop_at}
use Rattle.ms_tasks.proofs.Stepping.{drop_twice}

row_end : (n k : ℕ) → replicate n k ++ k ∷ [] ≡ replicate (suc n) k
row_end zero k = refl
row_end (suc n) k = ap (λ ks. k ∷ ks) (row_end n k)

-- one more
pub row_more : (xs : List ℕ) (n k : ℕ) → slice_get xs n ≡ Some k → xs ≡ replicate n k ++ drop n xs → xs ≡ replicate (n + 1) k ++ drop (n + 1) xs
row_more xs n k found row =
    let e : suc n ≡ n + 1 = omega arith in
    row ∙ (ap (λ ys. replicate n k ++ ys) (drop_at xs n k found)
    ∙ (sym (append_assoc (replicate n k) (k ∷ []) (drop (suc n) xs))
    ∙ (ap (λ ks. ks ++ drop (suc n) xs) (row_end n k) ∙ ap (λ m. replicate m k ++ drop m xs) e)))

-- the entry at a place, and those that are equal behind it
pub row_at : (xs : List ℕ) (i n k : ℕ) → slice_get xs i ≡ Some k → drop (i + 1) xs ≡ replicate n k ++ drop n (drop (i + 1) xs) → drop i xs ≡ replicate (1 + n) k ++ drop (i + (1 + n)) xs
row_at xs i n k found row =
    let e : suc i ≡ i + 1 = omega arith in
    let f : suc n ≡ 1 + n = omega arith in
    let h : (i + 1) + n ≡ i + (1 + n) = omega arith in
    drop_at xs i k found
    ∙ (ap (λ m. k ∷ drop m xs) e
    ∙ (ap (λ ys. k ∷ ys) row
    ∙ (ap (λ ys. k ∷ (replicate n k ++ ys)) (drop_twice (i + 1) n xs)
    ∙ (ap (λ m. k ∷ (replicate n k ++ drop m xs)) h
    ∙ ap (λ m. replicate m k ++ drop (i + (1 + n)) xs) f))))

-- all that stands behind a place
pub behind_at : {A : Type 0} (i : ℕ) (xs : List A) → take (length xs - i) (drop i xs) ≡ drop i xs
behind_at i xs = ap (λ n. take n (drop i xs)) (sym (length-drop i xs)) ∙ take-length (drop i xs)

take_none : {A : Type 0} (n : ℕ) → take {A = A} n [] ≡ []
take_none zero = refl
take_none (suc n) = refl

pub drop_take : {A : Type 0} (i n : ℕ) (xs : List A) → drop i (take n xs) ≡ take (n - i) (drop i xs)
drop_take zero n xs = let e : n ≡ n - 0 = omega arith in ap (λ m. take m xs) e
drop_take (suc i) zero xs = let e : 0 ≡ 0 - suc i = omega arith in ap (λ m. take m (drop (suc i) xs)) e
drop_take (suc i) (suc n) [] = sym (take_none (suc n - suc i))
drop_take (suc i) (suc n) (x ∷ xs) = let e : n - i ≡ suc n - suc i = omega arith in drop_take i n xs ∙ ap (λ m. take m (drop i xs)) e
