-- Marks of addresses: what one more changes, and how many there are.
use Rattle.std.proofs.Common.{◌≡◌, ℕ, zero, suc, ◌+◌, ◌<◌, ◌≤◌, ◌⊎◌, inl, inr, Bool, true, false, List, [], ◌∷◌, ◌++◌, length, take, drop, replicate, slice_get, slice_set, Some, refl, ap, ◌∙◌, arith}
use Rattle.ms_reach.specs.refinement.Marking.{IsMarked, trues}

-- ---- one more mark

pub trues_more : (bs : List Bool) (k : ℕ) → slice_get bs k ≡ Some false → trues (slice_set bs k true) ≡ suc (trues bs)
trues_more [] k is = absurd (cc)
trues_more (true ∷ bs) zero is = absurd (cc)
trues_more (false ∷ bs) zero is = refl
trues_more (true ∷ bs) (suc k) is = ap suc (trues_more bs k is)
trues_more (false ∷ bs) (suc k) is = trues_more bs k is

pub trues_le : (bs : List Bool) → trues bs ≤ length bs
trues_le [] = omega arith
trues_le (true ∷ bs) = omega (arith, trues_le bs)
trues_le (false ∷ bs) = omega (arith, trues_le bs)

pub trues_less : (bs : List Bool) (k : ℕ) → slice_get bs k ≡ Some false → trues bs < length bs
trues_less [] k is = absurd (cc)
trues_less (true ∷ bs) zero is = absurd (cc)
trues_less (false ∷ bs) zero is = omega (arith, trues_le bs)
trues_less (true ∷ bs) (suc k) is = omega (arith, trues_less bs k is)
trues_less (false ∷ bs) (suc k) is = omega (arith, trues_less bs k is)

pub trues_none : (n : ℕ) → trues (replicate n false) ≡ 0
trues_none zero = refl
trues_none (suc n) = trues_none n

pub marked_still : (bs : List Bool) (j k : ℕ) → IsMarked bs k → IsMarked (slice_set bs j true) k
marked_still [] j k is = absurd (cc)
marked_still (b ∷ bs) zero zero is = refl
marked_still (b ∷ bs) zero (suc k) is = is
marked_still (b ∷ bs) (suc j) zero is = is
marked_still (b ∷ bs) (suc j) (suc k) is = marked_still bs j k is

pub marked_here : (bs : List Bool) (k : ℕ) → slice_get bs k ≡ Some false → IsMarked (slice_set bs k true) k
marked_here [] k is = absurd (cc)
marked_here (b ∷ bs) zero is = refl
marked_here (b ∷ bs) (suc k) is = marked_here bs k is

pub marked_before : (bs : List Bool) (j k : ℕ) → IsMarked (slice_set bs j true) k → IsMarked bs k ⊎ (j ≡ k)
marked_before [] zero k is = absurd (cc)
marked_before [] (suc j) k is = absurd (cc)
marked_before (b ∷ bs) zero zero is = inr refl
marked_before (b ∷ bs) zero (suc k) is = inl is
marked_before (b ∷ bs) (suc j) zero is = inl is
marked_before (b ∷ bs) (suc j) (suc k) is = elim (marked_before bs j k is) [ inl h ↦ inl h | inr e ↦ inr (ap suc e) ]

pub none_marked : (n k : ℕ) → IsMarked (replicate n false) k → ⊥
none_marked zero k is = absurd (cc)
none_marked (suc n) zero is = absurd (cc)
none_marked (suc n) (suc k) is = none_marked n k is

-- ---- lists that grow by one

pub take_more : {A : Type 0} (xs : List A) (i : ℕ) (x : A) → slice_get xs i ≡ Some x → take (i + 1) xs ≡ take i xs ++ x ∷ []
take_more [] i x is = absurd (cc)
take_more (y ∷ xs) zero x is = let e : y ≡ x = cc in ap (λ z. z ∷ []) e
take_more (y ∷ xs) (suc i) x is = let e : suc i + 1 ≡ suc (i + 1) = omega arith in ap (λ n. take n (y ∷ xs)) e ∙ ap (λ zs. y ∷ zs) (take_more xs i x is)

pub drop_more : {A : Type 0} (xs : List A) (i : ℕ) (x : A) → slice_get xs i ≡ Some x → drop i xs ≡ x ∷ drop (i + 1) xs
drop_more [] i x is = absurd (cc)
drop_more (y ∷ xs) zero x is = let e : y ≡ x = cc in ap (λ z. z ∷ xs) e
drop_more (y ∷ xs) (suc i) x is = let e : suc (i + 1) ≡ suc i + 1 = omega arith in drop_more xs i x is ∙ ap (λ n. x ∷ drop n (y ∷ xs)) e
