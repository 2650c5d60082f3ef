-- The arena of segments after each operation.
use Rattle.std.proofs.Common.{◌≡◌, ◌==◌, ℕ, zero, suc, ◌+◌, ◌^◌, ◌<◌, ◌≤◌, true, false, List, [], ◌∷◌, ◌++◌, length, Option, Some, None, is_some, refl, arith, ap, sym, ◌∙◌, subst, ◌⊎◌, inl, inr}
use Rattle.std.specs.List.{All, find}
use Rattle.std.specs.Prelude.{slice_get}
use Rattle.std.proofs.Math.Pow.{pow_mono}
use Rattle.std.proofs.lemmas.List.{append-nil, get_or_append_left, length-append}
use Rattle.std.proofs.lemmas.List.Elements.{All-nil}
use Rattle.ms_gap_tree.proofs.LowestLaw.{two_halves}
use Rattle.ms_gap_tree.proofs.Gains.{absent_gains, absent_loses, apart_gains, apart_loses, gained, within_gains, within_loses, Gains}
use Rattle.ms_gap_tree.proofs.Pool.{beyond, given_back, has_within, next_new, next_old, within_more, IsNext}
use Rattle.ms_gap_tree.specs.refinement.Rooms.{IsPool}
use Rattle.ms_gap_tree.specs.refinement.Tree.{half}
use Rattle.ms_live.specs.refinement.Ordered.{Ordered, Empty, Fork, blank, has, lifted, pop, push, remove, seek, segments, shape, tree_of, IsApart, IsInOrder, IsStored, IsWithinArena}
use Rattle.ms_live.specs.Place.{contains_id, without}
use Rattle.ms_live.specs.declared.branch.Branch.{Branch}
use Rattle.ms_live.specs.declared.branch.Halves.{Halves}
use Rattle.ms_live.specs.declared.gaps.Live.{Live}
use Rattle.ms_live.specs.declared.gaps.TheConstants.{MOST_LIVE}
use Rattle.ms_live.proofs.Found.{is_some-find}
use Rattle.ms_live.proofs.OrderedLaws.{count_is, length_remove, newer_below, push_gains, seek_law, segments_pop, segments_push, segments_remove, in_order_empty, in_order_pop, in_order_push, in_order_remove}
use Rattle.ms_live.proofs.OrderedSteps.{framed, tree_none}

-- ---- levels

pub half_upto : (levels : ℕ) → levels ≤ 65 → half levels ≤ 18446744073709551616
unfolding half
half_upto levels h = let p : 2 ^ levels ≤ 2 ^ 65 = pow_mono h in omega arith

pub half_top : (levels : ℕ) → levels ≡ 65 → half levels ≡ 18446744073709551616
unfolding half
half_top levels e = rw e refl

-- ---- a level more

pub segments_lifted : (t : Ordered) → segments (lifted t) ≡ segments t
segments_lifted Empty = refl
segments_lifted (Fork i n s l u) = ap (λ (xs : List Live). s ∷ xs) (append-nil (segments (pop (Fork i n s l u))) ∙ sym (segments_pop i n s l u))

pub in_order_lifted : (d up : ℕ) (t : Ordered) → up ≡ suc d → IsInOrder d 0 t → IsInOrder up 0 (lifted t)
in_order_lifted d up Empty e h = in_order_empty up 0
in_order_lifted zero up (Fork i n s l u) e h = absurd h
in_order_lifted (suc d) up (Fork i n s l u) e h =
    let two = two_halves (suc d) in
    let h1 = h.1 in
    let h2 = h.2 in
    let len : length (segments (pop (Fork i n s l u))) ≡ length (segments l) + length (segments u) = sym (ap length (segments_pop i n s l u)) ∙ length-append (segments l) (segments u) in
    subst (λ (m : ℕ). IsInOrder m 0 (lifted (Fork i n s l u))) (sym e)
    (omega arith, omega arith, omega arith, newer_below d 0 i n s l u h, All-nil (λ (t : Live). s.id < t.id), in_order_pop (suc d) 0 (Fork i n s l u) h, in_order_empty (suc d) (0 + half (suc d)))

-- ---- a segment more

-- what holds after the tree has grown
pub stored_grown : (old new : List Halves) (levels up : ℕ) (root top : Option Branch) (free : List ℕ) → IsStored old levels root free → segments (tree_of new up top) ≡ segments (tree_of old levels root) → IsWithinArena (length old) (tree_of new up top) → IsApart (tree_of new up top) → IsInOrder up 0 (tree_of new up top)
    → ((j : ℕ) → has j (tree_of old levels root) ≡ false → has j (tree_of new up top) ≡ false) → up ≤ 65 → length new ≡ length old → IsStored new up top free
stored_grown old new levels up root top free s same within apart in_order slots few len =
    let p = s.pool in
    let c = p.count in
    let n = ap length same in
    let f = s.few in
    record {
      within = subst (λ (m : ℕ). IsWithinArena m (tree_of new up top)) (sym len) within;
      apart = apart;
      in_order = in_order;
      pool = record {
        there = λ k d h. let q = p.there k d h in let q0 = q.0 in (omega arith, slots _ q.1);
        once = p.once;
        count = omega arith;
      };
      few = omega arith;
      levels = few;
    }

-- what holds of a slot that no segment has, and of the arena without it
pub record IsSpare (nodes new : List Halves) (levels : ℕ) (root : Option Branch) (free : List ℕ) (slot : ℕ) : Type 0 where
  pub same : tree_of new levels root ≡ tree_of nodes levels root
  pub within : IsWithinArena (length new) (tree_of nodes levels root)
  pub few : length new ≤ MOST_LIVE
  pub next : IsNext (length new) (λ j. has j (tree_of nodes levels root)) (length (segments (tree_of nodes levels root))) free slot

spare_new : (nodes : List Halves) (levels : ℕ) (root : Option Branch) (free : List ℕ) → IsStored nodes levels root free → free ≡ [] → length (segments (tree_of nodes levels root)) < MOST_LIVE → IsSpare nodes (nodes ++ blank ∷ []) levels root [] (length nodes)
spare_new nodes levels root free s e few =
    let t = tree_of nodes levels root in
    let c = (subst (IsPool (length nodes) (λ j. has j t) (length (segments t))) e s.pool).count in
    let n : length (nodes ++ blank ∷ []) ≡ length nodes + 1 = length-append nodes (blank ∷ []) in
    record {
      same = framed levels nodes (nodes ++ blank ∷ []) root (λ j h. get_or_append_left nodes (blank ∷ []) blank j (has_within (length nodes) j (shape t) s.within h));
      within = within_more (length nodes) (length (nodes ++ blank ∷ [])) (shape t) (omega arith) s.within;
      few = omega arith;
      next = subst (λ (m : ℕ). IsNext m (λ j. has j t) (length (segments t)) [] (length nodes)) (sym n) (next_new (length nodes) (λ j. has j t) (length (segments t)) free s.pool e (beyond (length nodes) (length nodes) (shape t) s.within (omega arith)));
    }

pub spare_is : (nodes new : List Halves) (levels : ℕ) (root : Option Branch) (free rest : List ℕ) (slot : ℕ) → IsStored nodes levels root free → length (segments (tree_of nodes levels root)) < MOST_LIVE
    → ((new ≡ nodes) × (free ≡ rest ++ slot ∷ [])) ⊎ ((new ≡ nodes ++ blank ∷ []) × (free ≡ []) × (rest ≡ []) × (slot ≡ length nodes)) → IsSpare nodes new levels root rest slot
spare_is nodes new levels root free rest slot s few o =
    let t = tree_of nodes levels root in
    elim o [
      | inl p ↦ subst (λ (n : List Halves). IsSpare nodes n levels root rest slot) (sym p.0) (record { same = refl; within = s.within; few = s.few; next = next_old (length nodes) (λ j. has j t) (length (segments t)) free rest slot s.pool p.1 })
      | inr p ↦ subst (λ (n : List Halves). IsSpare nodes n levels root rest slot) (sym p.0) (subst (λ (r : List ℕ). IsSpare nodes (nodes ++ blank ∷ []) levels root r slot) (sym p.2) (subst (IsSpare nodes (nodes ++ blank ∷ []) levels root []) (sym p.3) (spare_new nodes levels root free s p.1 few)))
    ]

pub segments_put : (nodes mid new : List Halves) (levels : ℕ) (root result : Option Branch) (free rest : List ℕ) (slot : ℕ) (x : Live) → IsStored nodes levels root free → IsSpare nodes mid levels root rest slot → All (λ (t : Live). t.id < x.id) (segments (tree_of nodes levels root)) → x.id < half levels
    → tree_of new levels result ≡ push levels 0 slot x (tree_of mid levels root) → segments (tree_of new levels result) ≡ segments (tree_of nodes levels root) ++ x ∷ []
segments_put nodes mid new levels root result free rest slot x s spare newest room e =
    let t = tree_of nodes levels root in
    ap segments (e ∙ ap (push levels 0 slot x) spare.same) ∙ segments_push levels 0 slot x t s.in_order newest (omega arith) (omega arith)

pub stored_put : (nodes mid new : List Halves) (levels : ℕ) (root result : Option Branch) (free rest : List ℕ) (slot : ℕ) (x : Live) → IsStored nodes levels root free → IsSpare nodes mid levels root rest slot → All (λ (t : Live). t.id < x.id) (segments (tree_of nodes levels root)) → x.id < half levels
    → tree_of new levels result ≡ push levels 0 slot x (tree_of mid levels root) → length new ≡ length mid → IsStored new levels result rest
stored_put nodes mid new levels root result free rest slot x s spare newest room e l =
    let t = tree_of nodes levels root in
    let p = push levels 0 slot x t in
    let q = e ∙ ap (push levels 0 slot x) spare.same in
    let more = segments_push levels 0 slot x t s.in_order newest (omega arith) (omega arith) in
    let count : length (segments p) ≡ 1 + length (segments t) = ap length more ∙ (length-append (segments t) (x ∷ []) ∙ omega arith) in
    let gains = push_gains levels 0 slot x t s.in_order newest (omega arith) (omega arith) in
    let few = spare.few in
    let pool = spare.next.pool (λ j. has j p) (length (segments p)) count (λ j n h. absent_gains slot (shape t) (shape p) gains j h n) in
    record {
      within = subst (λ (n : ℕ). IsWithinArena n (tree_of new levels result)) (sym l) (subst (IsWithinArena (length mid)) (sym q) (within_gains slot (shape t) (shape p) gains (length mid) spare.next.there spare.within));
      apart = subst IsApart (sym q) (apart_gains slot (shape t) (shape p) gains spare.next.fresh s.apart);
      in_order = subst (IsInOrder levels 0) (sym q) (in_order_push levels 0 slot x t s.in_order newest (omega arith) (omega arith));
      pool = subst (λ (n : ℕ). IsPool n (λ j. has j (tree_of new levels result)) (length (segments (tree_of new levels result))) rest) (sym l) (subst (λ (y : Ordered). IsPool (length mid) (λ j. has j y) (length (segments y)) rest) (sym q) pool);
      few = omega arith;
      levels = s.levels;
    }

-- ---- a segment less

some_is : (o : Option Live) → is_some o ≡ true → (x : Live) × (o ≡ Some x)
some_is (Some x) h = (x, refl)
some_is None h = let q : false ≡ true = h in absurd (cc)

pub there_is : (nodes : List Halves) (levels id : ℕ) (root : Option Branch) (free : List ℕ) → IsStored nodes levels root free → contains_id id (segments (tree_of nodes levels root)) ≡ true → (x : Live) × (seek levels 0 id (tree_of nodes levels root) ≡ Some x)
there_is nodes levels id root free s there =
    let t = tree_of nodes levels root in
    let p = some_is (find (λ (t : Live). t.id == id) (segments t)) (is_some-find (λ (t : Live). t.id == id) (segments t) ∙ there) in
    (p.0, seek_law levels 0 id t s.in_order ∙ p.1)

pub segments_taken : (nodes new : List Halves) (levels id : ℕ) (root rest : Option Branch) (free : List ℕ) → IsStored nodes levels root free → tree_of new levels rest ≡ remove levels 0 id (tree_of nodes levels root) → segments (tree_of new levels rest) ≡ without id (segments (tree_of nodes levels root))
segments_taken nodes new levels id root rest free s e = ap segments e ∙ segments_remove levels 0 id (tree_of nodes levels root) s.in_order

pub stored_taken : (nodes new : List Halves) (levels id slot : ℕ) (root rest : Option Branch) (free : List ℕ) (x : Live) → IsStored nodes levels root free → seek levels 0 id (tree_of nodes levels root) ≡ Some x → Gains slot (shape (remove levels 0 id (tree_of nodes levels root))) (shape (tree_of nodes levels root))
    → tree_of new levels rest ≡ remove levels 0 id (tree_of nodes levels root) → length new ≡ length nodes → IsStored new levels rest (free ++ slot ∷ [])
stored_taken nodes new levels id slot root rest free x s there gains e l =
    let t = tree_of nodes levels root in
    let r = remove levels 0 id t in
    let n = length nodes in
    let had = gained slot (shape r) (shape t) gains in
    let apart = apart_loses slot (shape r) (shape t) gains s.apart in
    let pool = given_back n (λ j. has j t) (λ j. has j r) (length (segments t)) (length (segments r)) free slot s.pool (has_within n slot (shape t) s.within had) had apart.0 (λ j h. absent_loses slot (shape r) (shape t) gains j h) (length_remove levels 0 id t x there) in
    let few = s.few in
    record {
      within = subst (λ (m : ℕ). IsWithinArena m (tree_of new levels rest)) (sym l) (subst (IsWithinArena n) (sym e) (within_loses slot (shape r) (shape t) gains n s.within));
      apart = subst IsApart (sym e) apart.1;
      in_order = subst (IsInOrder levels 0) (sym e) (in_order_remove levels 0 id t x s.in_order there);
      pool = subst (λ (m : ℕ). IsPool m (λ j. has j (tree_of new levels rest)) (length (segments (tree_of new levels rest))) (free ++ slot ∷ [])) (sym l) (subst (λ (y : Ordered). IsPool n (λ j. has j y) (length (segments y)) (free ++ slot ∷ [])) (sym e) pool);
      few = omega arith;
      levels = s.levels;
    }

-- ---- how many, and the one with so many older ones

pub count_root : (nodes : List Halves) (levels : ℕ) (root : Branch) → IsInOrder levels 0 (tree_of nodes levels (Some root)) → root.count ≡ length (segments (tree_of nodes levels (Some root)))
count_root nodes zero root h = absurd h
count_root nodes (suc d) root h = count_is (suc d) 0 (tree_of nodes (suc d) (Some root)) h

pub count_none : (nodes : List Halves) (levels : ℕ) → ◌≡◌ {A = ℕ} 0 (length (segments (tree_of nodes levels None)))
count_none nodes levels = sym (ap (λ (t : Ordered). length (segments t)) (tree_none nodes levels))

pub get_some : (xs : List Live) (k : ℕ) → k < length xs → slice_get xs k ≡ None → ⊥
get_some [] k h e = let x : ⊥ = omega arith in x
get_some (x ∷ xs) zero h e = absurd (cc)
get_some (x ∷ xs) (suc k) h e = get_some xs k (omega arith) e
