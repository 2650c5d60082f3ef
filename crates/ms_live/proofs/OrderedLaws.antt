-- What is done on trees of segments, as what is done on the segments in order.
use Rattle.std.proofs.Common.{◌≡◌, ◌≢◌, ◌==◌, ℕ, zero, suc, ◌+◌, ◌-◌, ◌<◌, ◌≤◌, Bool, false, not, cond, List, [], ◌∷◌, ◌++◌, length, Some, None, nat_eq, nat_lt, refl, arith, ap, sym, ◌∙◌, subst, append_assoc, inl, inr}
use Rattle.std.specs.List.{All, find}
use Rattle.std.specs.Prelude.{slice_get}
use Rattle.std.proofs.lemmas.Bool.{cases_lt}
use Rattle.std.proofs.lemmas.Bool.Decides.{nat_tests}
use Rattle.std.proofs.lemmas.List.{append-nil, length-append}
use Rattle.std.proofs.lemmas.List.Elements.{All-append, All-cons, All-filter, All-head, All-nil, All-push, All-same, All-tail, All-weaker, filter-append}
use Rattle.ms_gap_tree.proofs.Gains.{size_gains, Gains, Last, Left, Right}
use Rattle.ms_gap_tree.proofs.Inserted.{cond_false, cond_true, lt_false, lt_true}
use Rattle.ms_gap_tree.proofs.Laws.{half_none, upper_range}
use Rattle.ms_gap_tree.proofs.LowestLaw.{bool_cases, two_halves}
use Rattle.ms_gap_tree.specs.refinement.Tree.{half}
use Rattle.ms_live.specs.refinement.Ordered.{Ordered, Empty, Fork, count, no_item, pick, pop, push, remove, root, seek, segments, shape, IsInOrder}
use Rattle.ms_live.specs.Place.{without}
use Rattle.ms_live.specs.declared.branch.Branch.{Branch}
use Rattle.ms_live.specs.declared.gaps.Live.{Live}
use Rattle.ms_live.specs.declared.gaps.TheConstants.{MOST_LIVE}
use Rattle.ms_live.proofs.Found.{other_id, same_id}
use Rattle.ms_live.proofs.OrderedSlots.{remove_loses, size_is}

-- ---- lists

All-left : {X : Type 0} (P : X → Type 0) (xs ys : List X) → All P (xs ++ ys) → All P xs
All-left P [] ys a = All-nil P
All-left P (x ∷ xs) ys a = All-cons P x xs (All-head P x (xs ++ ys) a) (All-left P xs ys (All-tail P x (xs ++ ys) a))

All-right : {X : Type 0} (P : X → Type 0) (xs ys : List X) → All P (xs ++ ys) → All P ys
All-right P [] ys a = a
All-right P (x ∷ xs) ys a = All-right P xs ys (All-tail P x (xs ++ ys) a)

-- a list whose elements would be two things at once is empty
none_both : {X : Type 0} (P Q : X → Type 0) (xs : List X) → ((x : X) → P x → Q x → ⊥) → All P xs → All Q xs → xs ≡ []
none_both P Q [] f a b = refl
none_both P Q (x ∷ xs) f a b = absurd (f x (All-head P x xs a) (All-head Q x xs b))

find_left : {X : Type 0} (p : X → Bool) (xs ys : List X) → All (λ y. p y ≡ false) ys → find p (xs ++ ys) ≡ find p xs
find_left p [] [] a = refl
find_left p [] (y ∷ ys) a = cond_false (p y) (Some y) (find p ys) (All-head (λ z. p z ≡ false) y ys a) ∙ find_left p [] ys (All-tail (λ z. p z ≡ false) y ys a)
find_left p (x ∷ xs) ys a = ap (cond (p x) (Some x)) (find_left p xs ys a)

pub find_right : {X : Type 0} (p : X → Bool) (xs ys : List X) → All (λ y. p y ≡ false) xs → find p (xs ++ ys) ≡ find p ys
find_right p [] ys a = refl
find_right p (x ∷ xs) ys a = cond_false (p x) (Some x) (find p (xs ++ ys)) (All-head (λ z. p z ≡ false) x xs a) ∙ find_right p xs ys (All-tail (λ z. p z ≡ false) x xs a)

get_left : {X : Type 0} (xs ys : List X) (k : ℕ) → k < length xs → slice_get (xs ++ ys) k ≡ slice_get xs k
get_left [] ys k h = absurd (omega arith)
get_left (x ∷ xs) ys zero h = refl
get_left (x ∷ xs) ys (suc k) h = get_left xs ys k (omega arith)

get_right : {X : Type 0} (xs ys : List X) (k : ℕ) → length xs ≤ k → slice_get (xs ++ ys) k ≡ slice_get ys (k - length xs)
get_right [] ys k h = ap (slice_get ys) (omega arith)
get_right (x ∷ xs) ys zero h = absurd (omega arith)
get_right (x ∷ xs) ys (suc k) h = get_right xs ys k (omega arith) ∙ ap (slice_get ys) (omega arith)

differ : (a b : ℕ) → (a == b) ≡ false → a ≢ b
differ a b h e = grind (arith, nat_tests)

-- segments of other identities stay
without_none : (id : ℕ) (xs : List Live) → All (λ (t : Live). t.id ≢ id) xs → without id xs ≡ xs
without_none id [] a = refl
without_none id (x ∷ xs) a =
    let e = other_id x.id id (All-head (λ (t : Live). t.id ≢ id) x xs a) in
    ap (λ (b : Bool). cond (not b) (x ∷ without id xs) (without id xs)) e ∙ ap (λ (ys : List Live). x ∷ ys) (without_none id xs (All-tail (λ (t : Live). t.id ≢ id) x xs a))

-- ---- ranges

abbrev pub IsIn : ℕ → ℕ → Live → Type 0
IsIn d low s = (low ≤ s.id) × (s.id < low + half d)

abbrev Newer : Live → Live → Type 0
Newer s t = s.id < t.id

pub in_range : (d low : ℕ) (tree : Ordered) → IsInOrder d low tree → All (IsIn d low) (segments tree)
in_range d low Empty s = All-nil (IsIn d low)
in_range zero low (Fork i n s l u) h = absurd h
in_range (suc d) low (Fork i n s l u) h =
    let t = two_halves d in
    All-cons (IsIn (suc d) low) s (segments l ++ segments u) (h.0, h.1)
    (All-append (IsIn (suc d) low) (segments l) (segments u) (All-weaker (IsIn d low) (IsIn (suc d) low) (λ x p. (p.0, let q = p.1 in omega arith)) (segments l) (in_range d low l h.5))
    (All-weaker (IsIn d (low + half d)) (IsIn (suc d) low) (λ x p. let p0 = p.0 in let p1 = p.1 in (omega arith, omega arith)) (segments u) (in_range d (low + half d) u h.6)))

pub in_order_empty : (d low : ℕ) → IsInOrder d low Empty
in_order_empty zero low = tt
in_order_empty (suc d) low = tt

other_zero : (k : ℕ) → nat_eq (suc k) 0 ≡ false
other_zero k = grind (arith, nat_tests)

-- ---- what the code asks of the halves

pub record Few (d low counted : ℕ) (l u : Ordered) : Type 0 where
  pub count : counted < MOST_LIVE + 1
  pub in_order_lower : IsInOrder d low l
  pub in_order_upper : IsInOrder d (low + half d) u
  pub few_lower : length (segments l) < MOST_LIVE
  pub few_upper : length (segments u) < MOST_LIVE

pub few_halves : (level d low : ℕ) (root : Branch) (l u tree : Ordered) → level ≡ suc d → tree ≡ Fork root.at root.count root.segment l u → IsInOrder level low tree → length (segments tree) < MOST_LIVE → Few d low root.count l u
few_halves level d low root l u tree e t in_order few =
    let whole = Fork root.at root.count root.segment l u in
    let s = subst (λ (n : ℕ). IsInOrder n low whole) e (subst (IsInOrder level low) t in_order) in
    let f : length (segments whole) < MOST_LIVE = subst (λ (x : Ordered). length (segments x) < MOST_LIVE) t few in
    let n : length (segments l ++ segments u) ≡ length (segments l) + length (segments u) = length-append (segments l) (segments u) in
    let c = s.2 in
    record { count = omega arith; in_order_lower = s.5; in_order_upper = s.6; few_lower = omega arith; few_upper = omega arith }

-- ---- a segment more

newer_tail : (s : Live) (xs ys : List Live) (new : Live) → All (λ (t : Live). t.id < new.id) (s ∷ (xs ++ ys)) → All (λ (t : Live). t.id < new.id) (xs ++ ys)
newer_tail s xs ys new a = All-tail (λ (t : Live). t.id < new.id) s (xs ++ ys) a

pub segments_push : (d low slot : ℕ) (new : Live) (tree : Ordered) → IsInOrder d low tree → All (λ (t : Live). t.id < new.id) (segments tree) → low ≤ new.id → new.id < low + half d → segments (push d low slot new tree) ≡ segments tree ++ new ∷ []
segments_push zero low slot new tree h a b c = let x = half_none in absurd (omega arith)
segments_push (suc d) low slot new Empty h a b c = refl
segments_push (suc d) low slot new (Fork i n s l u) h a b c =
    let middle = low + half d in
    let P = λ (t : Live). t.id < new.id in
    let rest = newer_tail s (segments l) (segments u) new a in
    let on_lower = Fork i (n + 1) s (push d low slot new l) u in
    let on_upper = Fork i (n + 1) s l (push d middle slot new u) in
    elim (cases_lt new.id middle) [
      | inl k ↦
          let none : segments u ≡ [] = none_both P (IsIn d middle) (segments u) (λ x p q. let q0 = q.0 in omega arith) (All-right P (segments l) (segments u) rest) (in_range d middle u h.6) in
          let e = segments_push d low slot new l h.5 (All-left P (segments l) (segments u) rest) b k in
          ap segments (cond_true (nat_lt new.id middle) on_lower on_upper (lt_true _ _ k))
          ∙ ap (λ (xs : List Live). s ∷ xs) (ap (λ (xs : List Live). xs ++ segments u) e ∙ (ap (λ (ys : List Live). (segments l ++ new ∷ []) ++ ys) none ∙ (append-nil (segments l ++ new ∷ []) ∙ ap (λ (ys : List Live). ys ++ new ∷ []) (sym (ap (λ (ys : List Live). segments l ++ ys) none ∙ append-nil (segments l))))))
      | inr k ↦
          let older = All-head P s (segments l ++ segments u) a in
          let e = segments_push d middle slot new u h.6 (All-right P (segments l) (segments u) rest) k (upper_range d low new.id s.id b c h.0 h.1 (λ q. let p : ⊥ = omega arith in p) k) in
          ap segments (cond_false (nat_lt new.id middle) on_lower on_upper (lt_false _ _ k))
          ∙ ap (λ (xs : List Live). s ∷ xs) (ap (λ (ys : List Live). segments l ++ ys) e ∙ sym (append_assoc (segments l) (segments u) (new ∷ [])))
    ]

pub in_order_push : (d low slot : ℕ) (new : Live) (tree : Ordered) → IsInOrder d low tree → All (λ (t : Live). t.id < new.id) (segments tree) → low ≤ new.id → new.id < low + half d → IsInOrder d low (push d low slot new tree)
in_order_push zero low slot new tree h a b c = let x = half_none in absurd (omega arith)
in_order_push (suc d) low slot new Empty h a b c = (b, c, refl, All-nil (Newer new), All-nil (Newer new), in_order_empty d low, in_order_empty d (low + half d))
in_order_push (suc d) low slot new (Fork i n s l u) h a b c =
    let middle = low + half d in
    let P = λ (t : Live). t.id < new.id in
    let rest = newer_tail s (segments l) (segments u) new a in
    let older = All-head P s (segments l ++ segments u) a in
    let on_lower = Fork i (n + 1) s (push d low slot new l) u in
    let on_upper = Fork i (n + 1) s l (push d middle slot new u) in
    let h2 = h.2 in
    elim (cases_lt new.id middle) [
      | inl k ↦
          let all = All-left P (segments l) (segments u) rest in
          let e = segments_push d low slot new l h.5 all b k in
          let len : length (segments l ++ new ∷ []) ≡ length (segments l) + 1 = length-append (segments l) (new ∷ []) in
          let len2 = ap length e in
          subst (IsInOrder (suc d) low) (sym (cond_true (nat_lt new.id middle) on_lower on_upper (lt_true _ _ k)))
          (h.0, h.1, omega arith, All-same (Newer s) _ _ e (All-push (Newer s) (segments l) new h.3 older), h.4, in_order_push d low slot new l h.5 all b k, h.6)
      | inr k ↦
          let all = All-right P (segments l) (segments u) rest in
          let inside = upper_range d low new.id s.id b c h.0 h.1 (λ q. let p : ⊥ = omega arith in p) k in
          let e = segments_push d middle slot new u h.6 all k inside in
          let len : length (segments u ++ new ∷ []) ≡ length (segments u) + 1 = length-append (segments u) (new ∷ []) in
          let len2 = ap length e in
          subst (IsInOrder (suc d) low) (sym (cond_false (nat_lt new.id middle) on_lower on_upper (lt_false _ _ k)))
          (h.0, h.1, omega arith, h.3, All-same (Newer s) _ _ e (All-push (Newer s) (segments u) new h.4 older), h.5, in_order_push d middle slot new u h.6 all k inside)
    ]

pub push_gains : (d low slot : ℕ) (new : Live) (tree : Ordered) → IsInOrder d low tree → All (λ (t : Live). t.id < new.id) (segments tree) → low ≤ new.id → new.id < low + half d → Gains slot (shape tree) (shape (push d low slot new tree))
push_gains zero low slot new tree h a b c = let x = half_none in absurd (omega arith)
push_gains (suc d) low slot new Empty h a b c = Last no_item
push_gains (suc d) low slot new (Fork i n s l u) h a b c =
    let middle = low + half d in
    let P = λ (t : Live). t.id < new.id in
    let older = All-head P s (segments l ++ segments u) a in
    let rest = newer_tail s (segments l) (segments u) new a in
    let on_lower = Fork i (n + 1) s (push d low slot new l) u in
    let on_upper = Fork i (n + 1) s l (push d middle slot new u) in
    let More = λ (t : Ordered). Gains slot (shape (Fork i n s l u)) (shape t) in
    elim (cases_lt new.id middle) [
      | inl k ↦
          subst More (sym (cond_true (nat_lt new.id middle) on_lower on_upper (lt_true _ _ k)))
          (Left i no_item no_item (shape l) (shape (push d low slot new l)) (shape u) (push_gains d low slot new l h.5 (All-left P (segments l) (segments u) rest) b k))
      | inr k ↦
          let inside = upper_range d low new.id s.id b c h.0 h.1 (λ q. let p : ⊥ = omega arith in p) k in
          subst More (sym (cond_false (nat_lt new.id middle) on_lower on_upper (lt_false _ _ k)))
          (Right i no_item no_item (shape l) (shape u) (shape (push d middle slot new u)) (push_gains d middle slot new u h.6 (All-right P (segments l) (segments u) rest) k inside))
    ]

-- ---- the oldest goes

-- the segments but the oldest one
abbrev rest_of : Ordered → List Live
rest_of Empty = []
rest_of (Fork i n s l u) = segments l ++ segments u

rest_is : (t : Ordered) → rest_of t ≡ segments (pop t)
rest_is Empty = refl
rest_is (Fork i n s Empty Empty) = refl
rest_is (Fork i n s Empty (Fork j m t l u)) = ap (λ (xs : List Live). t ∷ xs) (rest_is (Fork j m t l u))
rest_is (Fork i n s (Fork j m t l u) upper) = ap (λ (xs : List Live). t ∷ (xs ++ segments upper)) (rest_is (Fork j m t l u))

-- those are the segments of the tree without it
pub segments_pop : (i n : ℕ) (s : Live) (l u : Ordered) → segments l ++ segments u ≡ segments (pop (Fork i n s l u))
segments_pop i n s l u = rest_is (Fork i n s l u)

pub newer_below : (d low i n : ℕ) (s : Live) (l u : Ordered) → IsInOrder (suc d) low (Fork i n s l u) → All (Newer s) (segments (pop (Fork i n s l u)))
newer_below d low i n s l u h = All-same (Newer s) _ _ (sym (segments_pop i n s l u)) (All-append (Newer s) (segments l) (segments u) h.3 h.4)

fewer : (i n : ℕ) (s : Live) (l u : Ordered) → length (segments l) + length (segments u) ≡ length (segments (pop (Fork i n s l u)))
fewer i n s l u = sym (length-append (segments l) (segments u)) ∙ ap length (segments_pop i n s l u)

pub in_order_pop : (d low : ℕ) (tree : Ordered) → IsInOrder d low tree → IsInOrder d low (pop tree)
in_order_pop d low Empty h = h
in_order_pop zero low (Fork i n s l u) h = absurd h
in_order_pop (suc d) low (Fork i n s Empty Empty) h = in_order_empty (suc d) low
in_order_pop (suc zero) low (Fork i n s Empty (Fork j m t l u)) h = absurd h.6
in_order_pop (suc (suc d)) low (Fork i n s Empty (Fork j m t l u)) h =
    let two = two_halves (suc d) in
    let g = h.6 in
    let g0 = g.0 in
    let g1 = g.1 in
    let h2 = h.2 in
    let f = fewer j m t l u in
    let len : length (segments l ++ segments u) ≡ length (segments l) + length (segments u) = length-append (segments l) (segments u) in
    (omega arith, omega arith, omega arith, All-nil (Newer t), newer_below d (low + half (suc d)) j m t l u g, in_order_empty (suc d) low, in_order_pop (suc d) (low + half (suc d)) (Fork j m t l u) g)
in_order_pop (suc zero) low (Fork i n s (Fork j m t l u) upper) h = absurd h.5
in_order_pop (suc (suc d)) low (Fork i n s (Fork j m t l u) upper) h =
    let two = two_halves (suc d) in
    let g = h.5 in
    let g0 = g.0 in
    let g1 = g.1 in
    let h2 = h.2 in
    let f = fewer j m t l u in
    let len : length (segments l ++ segments u) ≡ length (segments l) + length (segments u) = length-append (segments l) (segments u) in (
      g0,
      omega arith,
      omega arith,
      newer_below d low j m t l u g,
      All-weaker (IsIn (suc d) (low + half (suc d))) (Newer t) (λ x p. let p0 = p.0 in omega arith) (segments upper) (in_range (suc d) (low + half (suc d)) upper h.6),
      in_order_pop (suc d) low (Fork j m t l u) g,
      h.6,
    )

-- ---- a segment goes

pub segments_remove : (d low id : ℕ) (tree : Ordered) → IsInOrder d low tree → segments (remove d low id tree) ≡ without id (segments tree)
segments_remove zero low id Empty h = refl
segments_remove zero low id (Fork i n s l u) h = absurd h
segments_remove (suc d) low id Empty h = refl
segments_remove (suc d) low id (Fork i n s l u) h =
    let middle = low + half d in
    let whole = Fork i n s l u in
    let on_lower = Fork i (n - 1) s (remove d low id l) u in
    let on_upper = Fork i (n - 1) s l (remove d middle id u) in
    let rest = segments l ++ segments u in
    let split = filter-append (λ (t : Live). not (t.id == id)) (segments l) (segments u) in
    elim (bool_cases (s.id == id)) [
      | inl e ↦
          let same = same_id s.id id e in
          let all = All-weaker (Newer s) (λ (t : Live). t.id ≢ id) (λ t p q. let x : ⊥ = omega arith in x) rest (All-append (Newer s) (segments l) (segments u) h.3 h.4) in
          ap segments (cond_true (s.id == id) (pop whole) (cond (nat_lt id middle) on_lower on_upper) e)
          ∙ (sym (segments_pop i n s l u) ∙ (sym (without_none id rest all) ∙ sym (ap (λ (b : Bool). cond (not b) (s ∷ without id rest) (without id rest)) e)))
      | inr e ↦
          let kept = ap (λ (b : Bool). cond (not b) (s ∷ without id rest) (without id rest)) e in
          elim (cases_lt id middle) [
            | inl k ↦
                let stay = without_none id (segments u) (All-weaker (IsIn d middle) (λ (t : Live). t.id ≢ id) (λ t p q. let p0 = p.0 in let x : ⊥ = omega arith in x) (segments u) (in_range d middle u h.6)) in
                ap segments (cond_false (s.id == id) (pop whole) (cond (nat_lt id middle) on_lower on_upper) e ∙ cond_true (nat_lt id middle) on_lower on_upper (lt_true _ _ k))
                ∙ (ap (λ (xs : List Live). s ∷ xs) (ap (λ (xs : List Live). xs ++ segments u) (segments_remove d low id l h.5) ∙ (ap (λ (ys : List Live). without id (segments l) ++ ys) (sym stay) ∙ sym split)) ∙ sym kept)
            | inr k ↦
                let stay = without_none id (segments l) (All-weaker (IsIn d low) (λ (t : Live). t.id ≢ id) (λ t p q. let p1 = p.1 in let x : ⊥ = omega arith in x) (segments l) (in_range d low l h.5)) in
                ap segments (cond_false (s.id == id) (pop whole) (cond (nat_lt id middle) on_lower on_upper) e ∙ cond_false (nat_lt id middle) on_lower on_upper (lt_false _ _ k))
                ∙ (ap (λ (xs : List Live). s ∷ xs) (ap (λ (ys : List Live). segments l ++ ys) (segments_remove d middle id u h.6) ∙ (ap (λ (xs : List Live). xs ++ without id (segments u)) (sym stay) ∙ sym split)) ∙ sym kept)
          ]
    ]

pub length_remove : (d low id : ℕ) (tree : Ordered) (x : Live) → seek d low id tree ≡ Some x → 1 + length (segments (remove d low id tree)) ≡ length (segments tree)
length_remove d low id tree x h =
    let loses = remove_loses d low id tree x h in
    let one = size_gains loses.0 (shape (remove d low id tree)) (shape tree) loses.2 in
    let less = size_is (remove d low id tree) in
    let all = size_is tree in
    omega (arith, one, less, all)

pub in_order_remove : (d low id : ℕ) (tree : Ordered) (x : Live) → IsInOrder d low tree → seek d low id tree ≡ Some x → IsInOrder d low (remove d low id tree)
in_order_remove zero low id tree x h f = let q : None ≡ Some x = f in absurd (cc)
in_order_remove (suc d) low id Empty x h f = h
in_order_remove (suc d) low id (Fork i n s l u) x h f =
    let middle = low + half d in
    let whole = Fork i n s l u in
    let on_lower = Fork i (n - 1) s (remove d low id l) u in
    let on_upper = Fork i (n - 1) s l (remove d middle id u) in
    let p = λ (t : Live). not (t.id == id) in
    let h2 = h.2 in
    elim (bool_cases (s.id == id)) [
      | inl e ↦ subst (IsInOrder (suc d) low) (sym (cond_true (s.id == id) (pop whole) (cond (nat_lt id middle) on_lower on_upper) e)) (in_order_pop (suc d) low whole h)
      | inr e ↦
          let q = sym (cond_false (s.id == id) (Some s) (cond (nat_lt id middle) (seek d low id l) (seek d middle id u)) e) ∙ f in
          elim (cases_lt id middle) [
            | inl k ↦
                let there = sym (cond_true (nat_lt id middle) (seek d low id l) (seek d middle id u) (lt_true _ _ k)) ∙ q in
                let r = length_remove d low id l x there in
                subst (IsInOrder (suc d) low) (sym (cond_false (s.id == id) (pop whole) (cond (nat_lt id middle) on_lower on_upper) e ∙ cond_true (nat_lt id middle) on_lower on_upper (lt_true _ _ k)))
                (h.0, h.1, omega arith, All-same (Newer s) _ _ (segments_remove d low id l h.5) (All-filter p (Newer s) (segments l) h.3), h.4, in_order_remove d low id l x h.5 there, h.6)
            | inr k ↦
                let there = sym (cond_false (nat_lt id middle) (seek d low id l) (seek d middle id u) (lt_false _ _ k)) ∙ q in
                let r = length_remove d middle id u x there in
                subst (IsInOrder (suc d) low) (sym (cond_false (s.id == id) (pop whole) (cond (nat_lt id middle) on_lower on_upper) e ∙ cond_false (nat_lt id middle) on_lower on_upper (lt_false _ _ k)))
                (h.0, h.1, omega arith, h.3, All-same (Newer s) _ _ (segments_remove d middle id u h.6) (All-filter p (Newer s) (segments u) h.4), h.5, in_order_remove d middle id u x h.6 there)
          ]
    ]

-- ---- searches

pub seek_law : (d low id : ℕ) (tree : Ordered) → IsInOrder d low tree → seek d low id tree ≡ find (λ (t : Live). t.id == id) (segments tree)
seek_law zero low id Empty h = refl
seek_law zero low id (Fork i n s l u) h = absurd h
seek_law (suc d) low id Empty h = refl
seek_law (suc d) low id (Fork i n s l u) h =
    let middle = low + half d in
    let p = λ (t : Live). t.id == id in
    ap (cond (s.id == id) (Some s)) (elim (cases_lt id middle) [
      | inl k ↦
          let out = All-weaker (IsIn d middle) (λ t. p t ≡ false) (λ t q. let q0 = q.0 in other_id t.id id (λ e. let x : ⊥ = omega arith in x)) (segments u) (in_range d middle u h.6) in
          cond_true (nat_lt id middle) (seek d low id l) (seek d middle id u) (lt_true _ _ k) ∙ (seek_law d low id l h.5 ∙ sym (find_left p (segments l) (segments u) out))
      | inr k ↦
          let out = All-weaker (IsIn d low) (λ t. p t ≡ false) (λ t q. let q1 = q.1 in other_id t.id id (λ e. let x : ⊥ = omega arith in x)) (segments l) (in_range d low l h.5) in
          cond_false (nat_lt id middle) (seek d low id l) (seek d middle id u) (lt_false _ _ k) ∙ (seek_law d middle id u h.6 ∙ sym (find_right p (segments l) (segments u) out))
    ])

pub count_is : (d low : ℕ) (tree : Ordered) → IsInOrder d low tree → count tree ≡ length (segments tree)
count_is d low Empty h = refl
count_is zero low (Fork i n s l u) h = absurd h
count_is (suc d) low (Fork i n s l u) h = let len : length (segments l ++ segments u) ≡ length (segments l) + length (segments u) = length-append (segments l) (segments u) in let h2 = h.2 in omega arith

pub pick_law : (d low k : ℕ) (tree : Ordered) → IsInOrder d low tree → pick d k tree ≡ slice_get (segments tree) k
pick_law zero low k Empty h = refl
pick_law zero low k (Fork i n s l u) h = absurd h
pick_law (suc d) low k Empty h = refl
pick_law (suc d) low zero (Fork i n s l u) h = refl
pick_law (suc d) low (suc k) (Fork i n s l u) h =
    let middle = low + half d in
    let c = count_is d low l h.5 in
    let one : suc k - 1 ≡ k = omega arith in
    let no : nat_eq (suc k) 0 ≡ false = other_zero k in
    cond_false (nat_eq (suc k) 0) (Some s) (cond (nat_lt (suc k - 1) (count l)) (pick d (suc k - 1) l) (pick d (suc k - 1 - count l) u)) no
    ∙ (ap (λ (m : ℕ). cond (nat_lt m (count l)) (pick d m l) (pick d (m - count l) u)) one
    ∙ elim (cases_lt k (count l)) [
      | inl b ↦ cond_true (nat_lt k (count l)) (pick d k l) (pick d (k - count l) u) (lt_true _ _ b) ∙ (pick_law d low k l h.5 ∙ sym (get_left (segments l) (segments u) k (omega arith)))
      | inr b ↦
          cond_false (nat_lt k (count l)) (pick d k l) (pick d (k - count l) u) (lt_false _ _ b)
          ∙ (pick_law d middle (k - count l) u h.6 ∙ (ap (λ (m : ℕ). slice_get (segments u) (k - m)) c ∙ sym (get_right (segments l) (segments u) k (omega arith))))
    ])
