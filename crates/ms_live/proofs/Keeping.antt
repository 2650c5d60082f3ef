-- Ordered gaps keep what holds of them.
use Rattle.std.proofs.Common.{◌≡◌, ◌≢◌, ◌==◌, ℕ, zero, suc, ◌+◌, ◌-◌, ◌*◌, ◌/◌, ◌^◌, ◌<◌, ◌≤◌, Bool, true, false, not, cond, nat_eq, nat_lt, List, [], ◌∷◌, ◌++◌, length, get_or, Option, Some, None, IsSome, is_some, refl, arith, ap, sym, ◌∙◌, subst, inl, inr}
use Rattle.std.specs.List.{All, AllPairs, Contains, filter, find}
use Rattle.std.proofs.lemmas.Bool.{cases_lt}
use Rattle.std.proofs.lemmas.Bool.Decides.{nat_tests}
use Rattle.std.proofs.lemmas.List.{get_or_default, length-append}
use Rattle.std.proofs.lemmas.List.Elements.{All-contains, All-contains_itself, All-filter, All-head, All-tail, Contains-append_left, Contains-append_right, Contains-get_or, Contains-push, Contains-push_cases, filter_passes}
use Rattle.std.proofs.lemmas.List.Kept.{AllPairs-filter}
use Rattle.std.proofs.lemmas.List.Quantifiers.{all_pairs_push}
use Rattle.ms_gap_tree.specs.refinement.Rooms.{Arena, IsLowest, room_at, size_of}
use Rattle.ms_gap_tree.specs.refinement.Tree.{half}
use Rattle.ms_gap_tree.proofs.Inserted.{cond_false}
use Rattle.ms_gap_tree.proofs.Levels.{differ_test}
use Rattle.ms_live.specs.refinement.Kept.{AreEnough, filled, IsKept, Kept}
use Rattle.ms_live.specs.refinement.Layout.{behind, Begins, Ends, IsBegun, IsLayout, IsRun}
use Rattle.ms_live.specs.Place.{contains_id, without, IsAligned, IsFree, IsOutside, IsPlace}
use Rattle.ms_live.specs.declared.gaps.Live.{Live}
use Rattle.ms_live.specs.declared.gaps.TheConstants.{MOST_LIVE, GAP_LEVELS}
use Rattle.ms_live.proofs.Found.{find-Some, is_some-find, not_false, other_id, same_id}
use Rattle.ms_live.proofs.Layouts.{begins, entered, entered_empty, layout_new, left, left_empty, near, Joins, Leaves}

-- as many levels as are enough at any capacity
pub all_levels : (levels capacity : ℕ) → levels ≡ GAP_LEVELS → capacity < 4294967296 → AreEnough levels capacity
unfolding half
all_levels levels capacity e few = (omega arith, subst (λ (n : ℕ). (capacity + 15) / 16 < 2 ^ n / 2) (sym e) (omega arith))

-- ---- places

run_from_free : (live : List Live) (capacity n place : ℕ) → IsFree live capacity n place → IsRun (Contains live) capacity place (place + n)
run_from_free live capacity n place free x from to =
    let p = free (x - place) (omega arith) in
    let e : place + (x - place) ≡ x = omega arith in
    (subst (λ (a : ℕ). a < capacity) e p.0, λ s h. All-contains (IsOutside x) live s (subst (λ (a : ℕ). All (IsOutside a) live) e p.1) h)

free_from_run : (live : List Live) (capacity n place : ℕ) → IsRun (Contains live) capacity place (place + n) → IsFree live capacity n place
free_from_run live capacity n place run k h =
    let o = run (place + k) (omega arith) (omega arith) in (o.0, λ i d l. o.1 (get_or live i d) (Contains-get_or live i d l))

-- a free run of so many addresses lies in a gap with that room, which begins no later
roomy : (live : List Live) (capacity n place : ℕ) (f : ℕ → Option ℕ) → IsLayout (Contains live) capacity f → 0 < n → IsAligned place → IsFree live capacity n place → (key : ℕ) × (16 * key ≤ place) × (room : ℕ) × (f key ≡ Some room) × (n ≤ room)
roomy live capacity n place f l some even free =
    let w = l.whole place (place + n) (omega arith) even (run_from_free live capacity n place free) in
    let w3 = w.3 in
    let w4 = w.4 in
    (w.0, w3, w.1, w.2, omega arith)

pub place_found : (live : List Live) (capacity n : ℕ) (f : ℕ → Option ℕ) (key : ℕ) → IsLayout (Contains live) capacity f → 0 < n → IsLowest f n (Some key) → IsPlace live capacity n (Some (16 * key))
place_found live capacity n f key l some low =
    let fits = low.0.2 in (
      omega arith,
      free_from_run live capacity n (16 * key) (λ x from to. l.free key low.0.0 low.0.1 x from (omega arith)),
      λ lower less even free.
          let p = roomy live capacity n lower f l some even free in
          let p1 = p.1 in
          low.1 p.0 (omega arith) (p.2, p.3, p.4),
    )

pub place_none : (live : List Live) (capacity n : ℕ) (f : ℕ → Option ℕ) → IsLayout (Contains live) capacity f → 0 < n → IsLowest f n None → IsPlace live capacity n None
place_none live capacity n f l some none place even free = let p = roomy live capacity n place f l some even free in none p.0 (p.2, p.3, p.4)

pub place_fits : (live : List Live) (capacity n : ℕ) (f : ℕ → Option ℕ) (key : ℕ) → IsLayout (Contains live) capacity f → 0 < n → IsLowest f n (Some key) → 16 * key < capacity
place_fits live capacity n f key l some low = let fits = low.0.2 in (l.free key low.0.0 low.0.1 (16 * key) (omega arith) (omega arith)).0

-- ---- lists of segments

pub filled-append : (xs : List Live) (s : Live) → filled (xs ++ s ∷ []) ≡ cond (nat_lt 0 s.size) 1 0 + filled xs
filled-append [] s = refl
filled-append (x ∷ xs) s = let e = filled-append xs s in omega arith

pub one_at_most : (b : Bool) → cond b 1 0 ≤ 1
one_at_most true = omega arith
one_at_most false = omega arith

pub filled_few : (xs : List Live) → filled xs ≤ length xs
filled_few [] = omega arith
filled_few (x ∷ xs) = let e = filled_few xs in let o = one_at_most (nat_lt 0 x.size) in omega arith

pub filled_one : (s : Live) → 0 < s.size → cond {A = ℕ} (nat_lt 0 s.size) 1 0 ≡ 1
filled_one s h = grind (arith, nat_tests)

pub filled_none : (s : Live) → s.size ≡ 0 → cond {A = ℕ} (nat_lt 0 s.size) 1 0 ≡ 0
filled_none s h = grind (arith, nat_tests)

-- later segments have other identities
without_later : (id : ℕ) (xs : List Live) → All (λ (t : Live). id < t.id) xs → without id xs ≡ xs
without_later id [] a = refl
without_later id (x ∷ xs) a =
    let h = All-head (λ (t : Live). id < t.id) x xs a in
    let e = other_id x.id id (omega arith) in
    ap (λ (b : Bool). cond (not b) (x ∷ without id xs) (without id xs)) e ∙ ap (λ (ys : List Live). x ∷ ys) (without_later id xs (All-tail (λ (t : Live). id < t.id) x xs a))

abbrev IsRising : List Live → Type 0
IsRising = AllPairs (λ (s t : Live). s.id < t.id)

later : (x : Live) (xs : List Live) → IsRising (x ∷ xs) → All (λ (t : Live). x.id < t.id) xs
later x xs r k d h = r 0 (suc k) d (omega arith) (omega arith)

rest_rises : (x : Live) (xs : List Live) → IsRising (x ∷ xs) → IsRising xs
rest_rises x xs r i j d l h = r (suc i) (suc j) d (omega arith) (omega arith)

filled-step : (id : ℕ) (x : Live) (xs : List Live) (s : Live) (b : Bool) → (x.id == id) ≡ b → IsRising (x ∷ xs) → (find (λ (t : Live). t.id == id) xs ≡ Some s → filled xs ≡ cond (nat_lt 0 s.size) 1 0 + filled (without id xs))
    → cond b (Some x) (find (λ (t : Live). t.id == id) xs) ≡ Some s → filled (x ∷ xs) ≡ cond (nat_lt 0 s.size) 1 0 + filled (cond (not b) (x ∷ without id xs) (without id xs))
filled-step id x xs s true q r rest e =
    let same : x ≡ s = cc in
    let i = same_id x.id id q in
    let w = without_later id xs (subst (λ (n : ℕ). All (λ (t : Live). n < t.id) xs) i (later x xs r)) in
    ap (λ (t : Live). cond (nat_lt 0 t.size) 1 0 + filled xs) same ∙ ap (λ (ys : List Live). cond (nat_lt 0 s.size) 1 0 + filled ys) (sym w)
filled-step id x xs s false q r rest e = let f = rest e in omega arith

pub filled-without : (id : ℕ) (xs : List Live) (s : Live) → IsRising xs → find (λ (t : Live). t.id == id) xs ≡ Some s → filled xs ≡ cond (nat_lt 0 s.size) 1 0 + filled (without id xs)
filled-without id [] s r e = absurd (cc)
filled-without id (x ∷ xs) s r e = filled-step id x xs s (x.id == id) refl r (filled-without id xs s (rest_rises x xs r)) e

-- identities are of one segment each
once : (xs : List Live) → IsRising xs → (s t : Live) → Contains xs s → Contains xs t → s.id ≡ t.id → s ≡ t
once xs r s t cs ct e =
    let i = cs.0 in
    let j = ct.0 in
    let es : get_or xs i s ≡ s = cs.2 in
    let et : get_or xs j t ≡ t = ct.2 in
    let li = cs.1 in
    let lj = ct.1 in
    let ti : get_or xs i t ≡ s = get_or_default xs i t s li ∙ es in
    elim (cases_lt i j) [
      | inl h ↦ let q = r i j t h lj in let a = ap (λ (u : Live). u.id) ti in let b = ap (λ (u : Live). u.id) et in absurd (omega arith)
      | inr h ↦ elim (cases_lt j i) [
        | inl g ↦ let q = r j i t g li in let a = ap (λ (u : Live). u.id) ti in let b = ap (λ (u : Live). u.id) et in absurd (omega arith)
        | inr g ↦ let same : i ≡ j = omega arith in sym ti ∙ (ap (λ (n : ℕ). get_or xs n t) same ∙ et)
      ]
    ]

stays_in : (p : Live → Bool) (xs : List Live) (x : Live) → Contains xs x → p x ≡ true → Contains (filter p xs) x
stays_in p [] x c h = let l = c.1 in absurd (omega arith)
stays_in p (y ∷ ys) x (zero, l, e) h =
    let q : p y ≡ true = ap p e ∙ h in
    subst (λ (b : Bool). Contains (cond b (y ∷ filter p ys) (filter p ys)) x) (sym q) (0, omega arith, e)
stays_in p (y ∷ ys) x (suc k, l, e) h =
    let rest = stays_in p ys x (k, omega arith, e) h in
    elim (p y) as (λ b. Contains (cond b (y ∷ filter p ys) (filter p ys)) x) [ true ↦ Contains-append_right (y ∷ []) (filter p ys) x rest | false ↦ rest ]

pub joins : (live : List Live) (s : Live) → Joins (Contains live) (Contains (live ++ s ∷ [])) s
joins live s = record {
  old = λ t c. elim (Contains-push_cases live s t c) [ inl was ↦ inl was | inr same ↦ inr (sym same) ];
  stays = λ t c. Contains-append_left live (s ∷ []) t c;
  here = Contains-push live s;
}

pub leaves : (live : List Live) (id : ℕ) (s : Live) → IsRising live → find (λ (t : Live). t.id == id) live ≡ Some s → Leaves (Contains live) (Contains (without id live)) s
leaves live id s r e =
    let p = λ (t : Live). not (t.id == id) in
    let f = find-Some (λ (t : Live). t.id == id) live s e in
    let i = same_id s.id id f.1 in
    record {
      was = λ t c. (
        All-contains (Contains live) (filter p live) t (All-filter p (Contains live) live (All-contains_itself live)) c,
        λ same.
            let n = not_false (t.id == id) (All-contains (λ u. p u ≡ true) (filter p live) t (filter_passes p live) c) in
            let q : (t.id == id) ≡ true = ap (λ (u : Live). u.id == id) same ∙ f.1 in
            absurd (cc),
      );
      stays = λ t c ne. stays_in p live t c (ap not (other_id t.id id (λ q. ne (once live r t s c f.0 (q ∙ sym i)))));
      is = f.0;
    }

pub found_some : (live : List Live) (id : ℕ) → contains_id id live ≡ true → find (λ (t : Live). t.id == id) live ≡ None → ⊥
found_some live id c n =
    let e = is_some-find (λ (t : Live). t.id == id) live in
    let q : is_some (find (λ (t : Live). t.id == id) live) ≡ false = ap is_some n in
    absurd (cc)

-- ---- the gap of a place

pub begun : (live : List Live) (capacity : ℕ) (f : ℕ → Option ℕ) (s : Live) → IsLayout (Contains live) capacity f → 0 < s.size → IsPlace live capacity s.size (Some s.base) → (key : ℕ) × (room : ℕ) × IsBegun f s key room
begun live capacity f s l some p =
    begins (Contains live) capacity f l s some p.0 (run_from_free live capacity s.size s.base p.1) (λ lower less even run. p.2 lower less even (free_from_run live capacity s.size lower run))

-- ---- what always holds, after each change

pub at_other : (capacity k : ℕ) → k ≢ 0 → cond (nat_eq k 0) (Some capacity) None ≡ None
at_other capacity k n = cond_false (nat_eq k 0) (Some capacity) None (differ_test k 0 n)

pub kept_new : (capacity : ℕ) (a : Arena) → capacity < 4294967296 → ((key : ℕ) → room_at a key ≡ cond (nat_eq key 0) (Some capacity) None) → size_of a ≡ 1 → AreEnough a.levels capacity → a.most ≡ MOST_LIVE + 1 → IsKept (record { addresses = capacity; live = []; rooms = a })
kept_new capacity a few rooms size levels most =
    record {
      layout = layout_new (Contains []) capacity (room_at a) (λ s c. let l = c.1 in omega arith) (rooms 0) (λ k n. rooms k ∙ at_other capacity k n);
      addresses = few;
      rising = λ i j d l h. absurd (omega arith);
      few = omega arith;
      size = size;
      levels = levels;
      most = most;
    }

pub kept_entered : (k : Kept) (s : Live) (a : Arena) → IsKept k → length k.live < MOST_LIVE → All (λ (other : Live). other.id < s.id) k.live → IsPlace k.live k.addresses s.size (Some s.base)
    → (0 < s.size → (key room : ℕ) → IsBegun (room_at k.rooms) s key room → Begins (room_at k.rooms) (room_at a) s key room) → (s.size ≡ 0 → a ≡ k.rooms) → size_of a ≡ cond (nat_lt 0 s.size) 1 0 + size_of k.rooms → a.levels ≡ k.rooms.levels → a.most ≡ k.rooms.most
    → IsKept (record { addresses = k.addresses; live = k.live ++ s ∷ []; rooms = a })
kept_entered k s a kept few newest place begins same size levels most =
    let n : length (k.live ++ s ∷ []) ≡ length k.live + 1 = length-append k.live (s ∷ []) in
    let f = filled-append k.live s in
    let kf = kept.size in
    let w = joins k.live s in
    record {
      layout = elim (cases_lt 0 s.size) [
        | inl some ↦
            let b = begun k.live k.addresses (room_at k.rooms) s kept.layout some place in
            entered (Contains k.live) (Contains (k.live ++ s ∷ [])) k.addresses (room_at k.rooms) (room_at a) s b.0 b.1 kept.layout some place.0 (run_from_free k.live k.addresses s.size s.base place.1) b.2 w (begins some b.0 b.1 b.2)
        | inr none ↦
            let zero : s.size ≡ 0 = omega arith in
            subst (λ (x : Arena). IsLayout (Contains (k.live ++ s ∷ [])) k.addresses (room_at x)) (sym (same zero)) (entered_empty (Contains k.live) (Contains (k.live ++ s ∷ [])) k.addresses (room_at k.rooms) s kept.layout zero place.0 w)
      ];
      addresses = kept.addresses;
      rising = all_pairs_push (λ (s t : Live). s.id < t.id) k.live s kept.rising newest;
      few = omega arith;
      size = omega arith;
      levels = subst (λ (n : ℕ). AreEnough n k.addresses) (sym levels) kept.levels;
      most = most ∙ kept.most;
    }

length_without : (id : ℕ) (xs : List Live) → length (without id xs) ≤ length xs
length_without id [] = omega arith
length_without id (x ∷ xs) =
    let e = length_without id xs in
    elim (x.id == id) as (λ b. length (cond (not b) (x ∷ without id xs) (without id xs)) ≤ length (x ∷ xs)) [ true ↦ omega arith | false ↦ omega arith ]

pub kept_left : (k : Kept) (id : ℕ) (s : Live) (a : Arena) → IsKept k → find (λ (t : Live). t.id == id) k.live ≡ Some s
    → (0 < s.size → (key : ℕ) × (room : ℕ) × (rest : ℕ) × Ends k.addresses (room_at k.rooms) (room_at a) s key room rest) → (s.size ≡ 0 → a ≡ k.rooms) → cond (nat_lt 0 s.size) 1 0 + size_of a ≡ size_of k.rooms → a.levels ≡ k.rooms.levels → a.most ≡ k.rooms.most
    → IsKept (record { addresses = k.addresses; live = without id k.live; rooms = a })
kept_left k id s a kept found ends same size levels most =
    let f = filled-without id k.live s kept.rising found in
    let kf = kept.size in
    let few = kept.few in
    let l = length_without id k.live in
    let w = leaves k.live id s kept.rising found in
    record {
      layout = elim (cases_lt 0 s.size) [
        | inl some ↦
            let e = ends some in
            left (Contains k.live) (Contains (without id k.live)) k.addresses (room_at k.rooms) (room_at a) s e.0 e.1 e.2 kept.layout some w e.3
        | inr none ↦
            let zero : s.size ≡ 0 = omega arith in
            subst (λ (x : Arena). IsLayout (Contains (without id k.live)) k.addresses (room_at x)) (sym (same zero)) (left_empty (Contains k.live) (Contains (without id k.live)) k.addresses (room_at k.rooms) s kept.layout zero w)
      ];
      addresses = kept.addresses;
      rising = AllPairs-filter (λ (s t : Live). s.id < t.id) (λ t. not (t.id == id)) k.live kept.rising;
      few = omega arith;
      size = omega arith;
      levels = subst (λ (n : ℕ). AreEnough n k.addresses) (sym levels) kept.levels;
      most = most ∙ kept.most;
    }

-- the segment that is found has a gap behind it and lies within the capacity
pub back_is : (k : Kept) (id : ℕ) (s : Live) → IsKept k → find (λ (t : Live). t.id == id) k.live ≡ Some s → 0 < s.size → IsSome (room_at k.rooms (behind s))
back_is k id s kept found some =
    let p = kept.layout.backs s (find-Some (λ (t : Live). t.id == id) k.live s found).0 some in subst IsSome (sym p.1) refl

pub first_is : (k : Kept) → IsKept k → IsSome (room_at k.rooms 0)
first_is k kept = subst IsSome (sym kept.layout.first.1) refl

pub within_is : (k : Kept) (id : ℕ) (s : Live) → IsKept k → find (λ (t : Live). t.id == id) k.live ≡ Some s → 0 < s.size → s.base + s.size ≤ k.addresses
within_is k id s kept found some = kept.layout.within s (find-Some (λ (t : Live). t.id == id) k.live s found).0 some

-- what begins at its place ends within the capacity
pub placed_within : (live : List Live) (capacity : ℕ) (s : Live) → 0 < s.size → IsPlace live capacity s.size (Some s.base) → s.base + s.size ≤ capacity
placed_within live capacity s some p = let last = (p.1 (s.size - 1) (omega arith)).0 in omega arith

pub near_is : (k : Kept) → IsKept k → (key room : ℕ) → room_at k.rooms key ≡ Some room → 16 * key + room ≤ 4294967296
near_is k kept key room e = near (Contains k.live) k.addresses (room_at k.rooms) kept.layout kept.addresses key room e

pub few_is : (k : Kept) → IsKept k → length k.live < MOST_LIVE → size_of k.rooms < k.rooms.most
few_is k kept few =
    let f = filled_few k.live in
    let s = kept.size in
    let m = kept.most in
    omega arith
