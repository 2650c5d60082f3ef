-- How many numbers are in a set.
use Rattle.std.proofs.Common.{◌≡◌, ℕ, zero, suc, ◌+◌, ◌<◌, ◌≤◌, inl, inr, Bool, true, false, List, [], ◌∷◌, ◌++◌, length, slice_get, Some, refl, sym, ap, subst, ◌∙◌, arith, length-append}
use Rattle.std.specs.List.{All, AllPairs, Contains}
use Rattle.std.proofs.Math.ListN.{get_or}
use Rattle.std.proofs.lemmas.Bool.{cases_lt}
use Rattle.std.proofs.lemmas.List.Elements.{Contains-append_cases, Contains-append_left, Contains-append_right, Contains-get_or}
use Rattle.std.proofs.lemmas.List.Kept.{AllPairs-cons}
use Rattle.std.proofs.lemmas.List.Quantifiers.{all_pairs_push}
use Rattle.std.proofs.lemmas.Option.{slice_get-get_or, slice_get_within}
use Rattle.ms_live.specs.declared.gaps.Live.{Live}
use Rattle.ms_machine.proofs.SafePaints.{Contains-cases, Contains-first, Contains-later, Contains-none}
use Rattle.ms_reach.specs.Count.{IsCount}
use Rattle.ms_reach.specs.refinement.Closing.{HasMark}
use Rattle.ms_reach.specs.refinement.Marking.{IsMarked, trues}

-- sets of the same numbers have as many
pub count_same : (P Q : ℕ → Type 0) (n : ℕ) → ((k : ℕ) → P k → Q k) → ((k : ℕ) → Q k → P k) → IsCount P n → IsCount Q n
count_same P Q n there back c = (c.0, c.1, λ k has. there k (c.2 k has), λ k q. c.3 k (back k q), c.4)

-- ---- the places of marks

places : ℕ → List Bool → List ℕ
places n [] = []
places n (true ∷ bs) = n ∷ places (suc n) bs
places n (false ∷ bs) = places (suc n) bs

length_places : (n : ℕ) (bs : List Bool) → length (places n bs) ≡ trues bs
unfolding places
length_places n [] = refl
length_places n (true ∷ bs) = ap suc (length_places (suc n) bs)
length_places n (false ∷ bs) = length_places (suc n) bs

later : (n k : ℕ) (b : Bool) (bs : List Bool) → ((j : ℕ) × (k ≡ suc n + j) × (slice_get bs j ≡ Some true)) → (j : ℕ) × (k ≡ n + j) × (slice_get (b ∷ bs) j ≡ Some true)
later n k b bs at = (suc at.0, omega (arith, at.1), at.2)

place_is : (n : ℕ) (bs : List Bool) (k : ℕ) → Contains (places n bs) k → (j : ℕ) × (k ≡ n + j) × (slice_get bs j ≡ Some true)
unfolding places
place_is n [] k has = absurd (Contains-none k has)
place_is n (true ∷ bs) k has =
    elim (Contains-cases n (places (suc n) bs) k has) [
      | inl same ↦ (0, omega (arith, same), refl)
      | inr more ↦ later n k true bs (place_is (suc n) bs k more)
    ]
place_is n (false ∷ bs) k has = later n k false bs (place_is (suc n) bs k has)

is_place : (n : ℕ) (bs : List Bool) (j : ℕ) → slice_get bs j ≡ Some true → Contains (places n bs) (n + j)
unfolding places
is_place n [] j is = absurd (cc)
is_place n (true ∷ bs) zero is = let e : n ≡ n + 0 = omega arith in subst (Contains (n ∷ places (suc n) bs)) e (Contains-first n (places (suc n) bs))
is_place n (false ∷ bs) zero is = absurd (cc)
is_place n (true ∷ bs) (suc j) is =
    let e : suc n + j ≡ n + suc j = omega arith in subst (Contains (n ∷ places (suc n) bs)) e (Contains-later n (places (suc n) bs) (suc n + j) (is_place (suc n) bs j is))
is_place n (false ∷ bs) (suc j) is = let e : suc n + j ≡ n + suc j = omega arith in subst (Contains (places (suc n) bs)) e (is_place (suc n) bs j is)

places_rise : (n : ℕ) (bs : List Bool) → AllPairs (λ (j k : ℕ). j < k) (places n bs)
unfolding places
places_rise n [] = λ i j d low within. absurd (omega arith)
places_rise n (true ∷ bs) = AllPairs-cons (λ (j k : ℕ). j < k) n (places (suc n) bs) behind (places_rise (suc n) bs) where
  behind : All (λ (k : ℕ). n < k) (places (suc n) bs)
  behind i d within = let at = place_is (suc n) bs _ (Contains-get_or (places (suc n) bs) i d within) in omega (arith, at.1)
places_rise n (false ∷ bs) = places_rise (suc n) bs

pub marks_count : (bs : List Bool) → IsCount (IsMarked bs) (trues bs)
marks_count bs = (
  places 0 bs,
  places_rise 0 bs,
  λ k has. let at = place_is 0 bs k has in let e : at.0 ≡ k = omega (arith, at.1) in subst (IsMarked bs) e at.2,
  λ k is. let e : 0 + k ≡ k = omega arith in subst (Contains (places 0 bs)) e (is_place 0 bs k is),
  length_places 0 bs,
)

-- ---- counted from 0 on

abbrev pub Up : (ℕ → Type 0) → ℕ → ℕ → Type 0
Up P i k = (k < i) × P k

pub count_none : (P : ℕ → Type 0) → IsCount (Up P 0) 0
count_none P = ([], λ i j d low within. absurd (omega arith), λ k has. absurd (Contains-none k has), λ k up. absurd (omega (arith, up.0)), refl)

pub count_one : (P : ℕ → Type 0) (i n : ℕ) → IsCount (Up P i) n → P i → IsCount (Up P (i + 1)) (n + 1)
count_one P i n c here =
    let ks = c.0 in (
      ks ++ i ∷ [],
      all_pairs_push (λ (j k : ℕ). j < k) ks i c.1 (λ k d within. (c.2 _ (Contains-get_or ks k d within)).0),
      λ k has.
          elim (Contains-append_cases ks (i ∷ []) k has) [
            | inl old ↦ let up = c.2 k old in (omega (arith, up.0), up.1)
            | inr new ↦ elim (Contains-cases i [] k new) [ inl same ↦ (omega (arith, same), subst P same here) | inr none ↦ absurd (Contains-none k none) ]
          ],
      λ k up.
          elim (cases_lt k i) [
            | inl low ↦ Contains-append_left ks (i ∷ []) k (c.3 k (low, up.1))
            | inr high ↦ let e : i ≡ k = omega (arith, high, up.0) in Contains-append_right ks (i ∷ []) k (subst (Contains (i ∷ [])) e (Contains-first i []))
          ],
      omega (arith, length-append ks (i ∷ []), c.4),
    )

pub count_skip : (P : ℕ → Type 0) (i n : ℕ) → IsCount (Up P i) n → ¬ (P i) → IsCount (Up P (i + 1)) n
count_skip P i n c not =
    count_same (Up P i) (Up P (i + 1)) n (λ k up. (omega (arith, up.0), up.1)) (λ k up. elim (cases_lt k i) [ inl low ↦ (low, up.1) | inr high ↦ let e : k ≡ i = omega (arith, high, up.0) in absurd (not (subst P e up.1)) ]) c

pub count_all : (P : ℕ → Type 0) (i n : ℕ) → ((k : ℕ) → P k → k < i) → IsCount (Up P i) n → IsCount P n
count_all P i n within c = count_same (Up P i) P n (λ k up. up.1) (λ k p. (within k p, p)) c

-- ---- segments with a mark

pub has_mark : (marks : List Bool) (live : List Live) (i : ℕ) (d : Live) → i < length live
    → ((k : ℕ) × ((get_or live i d).base ≤ k) × (k < (get_or live i d).base + (get_or live i d).size) × IsMarked marks k) → HasMark marks live i
has_mark marks live i d low at = (get_or live i d, at.0, slice_get-get_or live i d low, at.1, at.2, at.3)

no_mark : (marks : List Bool) (live : List Live) (i : ℕ) (s t : Live) → slice_get live i ≡ Some s → ((k : ℕ) → s.base ≤ k → k < s.base + s.size → slice_get marks k ≡ Some false)
    → (k : ℕ) → slice_get live i ≡ Some t → t.base ≤ k → k < t.base + t.size → IsMarked marks k → ⊥
no_mark marks live i s t is none k there from to marked =
    let both : Some t ≡ Some s = sym there ∙ is in
    let same : t ≡ s = cc in
    let free = none k (subst (λ (u : Live). u.base ≤ k) same from) (subst (λ (u : Live). k < u.base + u.size) same to) in
    let odd : Some false ≡ Some true = sym free ∙ marked in
    absurd (cc)

pub has_no_mark : (marks : List Bool) (live : List Live) (i : ℕ) (d : Live) → i < length live
    → ((k : ℕ) → (get_or live i d).base ≤ k → k < (get_or live i d).base + (get_or live i d).size → slice_get marks k ≡ Some false) → ¬ (HasMark marks live i)
has_no_mark marks live i d low none has = no_mark marks live i (get_or live i d) has.0 (slice_get-get_or live i d low) none has.1 has.2 has.3 has.4 has.5

pub mark_within : (marks : List Bool) (live : List Live) (i k : ℕ) → length live ≤ i → HasMark marks live k → k < i
mark_within marks live i k end has = omega (arith, end, slice_get_within live k has.0 has.2)
