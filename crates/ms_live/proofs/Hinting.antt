-- What keeps hints right.
use Rattle.std.proofs.Common.{◌≡◌, ◌≢◌, ◌==◌, ℕ, zero, suc, ◌%◌, ◌<◌, Bool, false, not, cond, List, [], ◌∷◌, ◌++◌, length, set, Option, Some, None, is_some, nat_eq, nat_lt, refl, arith, ap, sym, ◌∙◌, subst, inl, inr, get_or-set_same, get_or-set_other}
use Rattle.std.specs.List.{All, find}
use Rattle.std.proofs.lemmas.Bool.{cases_lt}
use Rattle.std.proofs.lemmas.List.{get_or_append_left, get_or_past, get_or_push, length-append}
use Rattle.std.proofs.lemmas.List.Elements.{All-weaker}
use Rattle.std.proofs.lemmas.Option.{cond_some, same_Some}
use Rattle.ms_gap_tree.proofs.Inserted.{cond_false, cond_true, lt_false, lt_true}
use Rattle.ms_gap_tree.proofs.Levels.{differ_test, same_test, test_differ}
use Rattle.ms_gap_tree.proofs.LowestLaw.{bool_cases, test_eq}
use Rattle.ms_live.specs.refinement.Hints.{forgotten, hint_at, hint_of, only, written, IsHinted}
use Rattle.ms_live.specs.Place.{without}
use Rattle.ms_live.specs.declared.gaps.Live.{Live}
use Rattle.ms_live.specs.declared.gaps.TheConstants.{MOST_LIVE}
use Rattle.ms_live.proofs.Found.{other_id, same_id}
use Rattle.ms_live.proofs.OrderedLaws.{find_right}

-- ---- lists

-- what is found is found in a longer list
find_more : (p : Live → Bool) (xs ys : List Live) (s : Live) → find p xs ≡ Some s → find p (xs ++ ys) ≡ Some s
find_more p [] ys s e = let q : None ≡ Some s = e in absurd (cc)
find_more p (x ∷ xs) ys s e =
    elim (bool_cases (p x)) [
      | inl t ↦ cond_true (p x) (Some x) (find p (xs ++ ys)) t ∙ (sym (cond_true (p x) (Some x) (find p xs) t) ∙ e)
      | inr f ↦ cond_false (p x) (Some x) (find p (xs ++ ys)) f ∙ find_more p xs ys s (sym (cond_false (p x) (Some x) (find p xs) f) ∙ e)
    ]

-- another identity is found where one goes
find_without : (id other : ℕ) (xs : List Live) → other ≢ id → find (λ t. t.id == other) (without id xs) ≡ find (λ t. t.id == other) xs
find_without id other [] n = refl
find_without id other (x ∷ xs) n =
    let p = λ (t : Live). t.id == other in
    let r = find_without id other xs n in
    elim (bool_cases (x.id == id)) [
      | inl e ↦
          let same = same_id x.id id e in
          let no = other_id x.id other (λ q. n (sym q ∙ same)) in
          ap (λ (b : Bool). find p (cond (not b) (x ∷ without id xs) (without id xs))) e ∙ (r ∙ sym (cond_false (x.id == other) (Some x) (find p xs) no))
      | inr e ↦ ap (λ (b : Bool). find p (cond (not b) (x ∷ without id xs) (without id xs))) e ∙ ap (cond (x.id == other) (Some x)) r
    ]

-- ---- hints

-- what a hint is after one was written
set_at : (hints : List (Option Live)) (i j : ℕ) (hint : Option Live) → i < length hints → hint_at (set hints i hint) j ≡ cond (nat_eq j i) hint (hint_at hints j)
set_at hints i j hint h =
    elim (bool_cases (nat_eq j i)) [
      | inl t ↦ ap (hint_at (set hints i hint)) (test_eq j i t) ∙ (get_or-set_same hints i hint None h ∙ sym (cond_true (nat_eq j i) hint (hint_at hints j) t))
      | inr n ↦ get_or-set_other hints i j hint None (test_differ j i n) ∙ sym (cond_false (nat_eq j i) hint (hint_at hints j) n)
    ]

pushed_at : (hints : List (Option Live)) (i j : ℕ) (hint : Option Live) → length hints ≡ i → hint_at (hints ++ hint ∷ []) j ≡ cond (nat_eq j i) hint (hint_at hints j)
pushed_at hints i j hint h =
    elim (bool_cases (nat_eq j i)) [
      | inl t ↦ get_or_push hints hint None j (h ∙ sym (test_eq j i t)) ∙ sym (cond_true (nat_eq j i) hint (hint_at hints j) t)
      | inr n ↦
          let other = test_differ j i n in
          let long = length-append hints (hint ∷ []) in
          elim (cases_lt j (length hints)) [
            | inl k ↦ get_or_append_left hints (hint ∷ []) None j k
            | inr k ↦ get_or_past (hints ++ hint ∷ []) j None (omega arith) ∙ sym (get_or_past hints j None k)
          ]
          ∙ sym (cond_false (nat_eq j i) hint (hint_at hints j) n)
    ]

written_at : (hints : List (Option Live)) (i j : ℕ) (hint : Option Live) (s : Live) → hint_at (written i hint hints) j ≡ Some s → cond (nat_eq j i) hint (hint_at hints j) ≡ Some s
written_at hints i j hint s e =
    let n = length hints in
    let at = λ (xs : List (Option Live)). hint_at xs j in
    elim (cases_lt i n) [
      | inl h ↦ sym (ap at (cond_true (nat_lt i n) (set hints i hint) (cond (nat_eq i n) (hints ++ hint ∷ []) hints) (lt_true _ _ h)) ∙ set_at hints i j hint h) ∙ e
      | inr h ↦
          let q = sym (ap at (cond_false (nat_lt i n) (set hints i hint) (cond (nat_eq i n) (hints ++ hint ∷ []) hints) (lt_false _ _ h))) ∙ e in
          elim (bool_cases (nat_eq i n)) [
            | inl t ↦ sym (ap at (cond_true (nat_eq i n) (hints ++ hint ∷ []) hints t) ∙ pushed_at hints i j hint (sym (test_eq i n t))) ∙ q
            | inr f ↦
                let r = sym (ap at (cond_false (nat_eq i n) (hints ++ hint ∷ []) hints f)) ∙ q in
                cond_false (nat_eq j i) hint (hint_at hints j) (differ_test j i (λ x. let w = sym r ∙ get_or_past hints j None (omega arith) in absurd (cc))) ∙ r
          ]
    ]

only_is : (id : ℕ) (hint : Option Live) (s : Live) → only id hint ≡ Some s → (hint ≡ Some s) × (s.id ≡ id)
only_is id None s e = let q : ◌≡◌ {A = Option Live} None (Some s) = e in absurd (cc)
only_is id (Some x) s e =
    let p = cond_some (x.id == id) x s e in
    (ap Some p.1, ap (λ (t : Live). t.id) (sym p.1) ∙ same_id x.id id p.0)

-- a hint at the entry of its identity is the hint of that
hint_not : (hints : List (Option Live)) (id i : ℕ) (s : Live) → hint_at hints i ≡ Some s → i ≡ s.id % MOST_LIVE → s.id ≡ id → is_some (hint_of hints id) ≡ false → ⊥
hint_not hints id i s e at same f =
    let here : hint_at hints (id % MOST_LIVE) ≡ Some s = sym (ap (hint_at hints) (at ∙ ap (λ (n : ℕ). n % MOST_LIVE) same)) ∙ e in
    let is : hint_of hints id ≡ Some s = ap (only id) here ∙ cond_true (s.id == id) (Some s) None (ap (λ (n : ℕ). n == id) same ∙ same_test id) in
    let q = sym f ∙ ap is_some is in
    absurd (cc)

-- the segment that the hint of an identity is
hint_is : (hints : List (Option Live)) (id : ℕ) (s : Live) → hint_of hints id ≡ Some s → (hint_at hints (id % MOST_LIVE) ≡ Some s) × (s.id ≡ id)
hint_is hints id s e = only_is id (hint_at hints (id % MOST_LIVE)) s e

-- ---- what is done

pub hinted_none : IsHinted [] (None ∷ [])
hinted_none zero s e = let q : ◌≡◌ {A = Option Live} None (Some s) = e in absurd (cc)
hinted_none (suc i) s e = let q : ◌≡◌ {A = Option Live} None (Some s) = e in absurd (cc)

pub hinted_push : (live : List Live) (hints : List (Option Live)) (x : Live) → IsHinted live hints → All (λ (t : Live). t.id < x.id) live → IsHinted (live ++ x ∷ []) (written (x.id % MOST_LIVE) (Some x) hints)
hinted_push live hints x h newest i s e =
    let at = x.id % MOST_LIVE in
    let p = λ (t : Live). t.id == x.id in
    let q = written_at hints at i (Some x) s e in
    elim (bool_cases (nat_eq i at)) [
      | inl t ↦
          let same = same_Some x s (sym (cond_true (nat_eq i at) (Some x) (hint_at hints i) t) ∙ q) in
          let others = All-weaker (λ (t : Live). t.id < x.id) (λ t. p t ≡ false) (λ t k. other_id t.id x.id (λ z. let y : ⊥ = omega arith in y)) live newest in
          let found : find p (live ++ x ∷ []) ≡ Some x = find_right p live (x ∷ []) others ∙ cond_true (x.id == x.id) (Some x) None (same_test x.id) in
          subst (λ (y : Live). (i ≡ y.id % MOST_LIVE) × (find (λ t. t.id == y.id) (live ++ x ∷ []) ≡ Some y)) same (test_eq i at t, found)
      | inr n ↦
          let was = h i s (sym (cond_false (nat_eq i at) (Some x) (hint_at hints i) n) ∙ q) in
          (was.0, find_more (λ t. t.id == s.id) live (x ∷ []) s was.1)
    ]

pub hinted_remove : (live : List Live) (hints : List (Option Live)) (id : ℕ) → IsHinted live hints → IsHinted (without id live) (forgotten id hints)
hinted_remove live hints id h i s e =
    let at = id % MOST_LIVE in
    let less = written at None hints in
    elim (bool_cases (is_some (hint_of hints id))) [
      | inl t ↦
          let q = written_at hints at i None s (sym (ap (λ (xs : List (Option Live)). hint_at xs i) (cond_true (is_some (hint_of hints id)) less hints t)) ∙ e) in
          elim (bool_cases (nat_eq i at)) [
            | inl k ↦ let z = sym (cond_true (nat_eq i at) None (hint_at hints i) k) ∙ q in absurd (cc)
            | inr k ↦
                let was = h i s (sym (cond_false (nat_eq i at) None (hint_at hints i) k) ∙ q) in
                let other = test_differ i at k in
                (was.0, find_without id s.id live (λ z. other (was.0 ∙ ap (λ (n : ℕ). n % MOST_LIVE) z)) ∙ was.1)
          ]
      | inr f ↦
          let there = sym (ap (λ (xs : List (Option Live)). hint_at xs i) (cond_false (is_some (hint_of hints id)) less hints f)) ∙ e in
          let was = h i s there in
          (was.0, find_without id s.id live (λ z. hint_not hints id i s there was.0 z f) ∙ was.1)
    ]

pub hinted_find : (live : List Live) (hints : List (Option Live)) (id : ℕ) (s : Live) → IsHinted live hints → hint_of hints id ≡ Some s → find (λ t. t.id == id) live ≡ Some s
hinted_find live hints id s h e =
    let is = hint_is hints id s e in
    subst (λ (n : ℕ). find (λ t. t.id == n) live ≡ Some s) is.1 (h (id % MOST_LIVE) s is.0).1
