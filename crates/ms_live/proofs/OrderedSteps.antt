-- What the code on trees of segments leaves is what is done on the trees.
use Rattle.std.proofs.Common.{◌≡◌, ◌≢◌, ◌==◌, ℕ, zero, suc, ◌+◌, ◌-◌, ◌<◌, ◌≤◌, true, false, cond, List, Option, Some, None, set, nat_eq, nat_lt, refl, arith, length, ap, sym, ◌∙◌, ◌||◌, subst, get_or-set_same, get_or-set_other}
use Rattle.ms_gap_tree.proofs.Inserted.{cond_false, cond_true, contrary, lt_false, lt_true}
use Rattle.ms_gap_tree.proofs.Laws.{half_more, half_none, half_one}
use Rattle.ms_gap_tree.proofs.Levels.{differ_test, or_false, or_joined, or_left, or_right, same_test, test_differ}
use Rattle.ms_gap_tree.proofs.LowestLaw.{two_halves}
use Rattle.ms_gap_tree.specs.refinement.Tree.{half}
use Rattle.ms_live.specs.refinement.Ordered.{Ordered, Empty, Fork, at, blank, freed, has, lifted, pop, push, remove, tree_of, IsApart, IsWithinArena}
use Rattle.ms_live.specs.declared.branch.Branch.{Branch}
use Rattle.ms_live.specs.declared.branch.Halves.{Halves}
use Rattle.ms_live.specs.declared.gaps.Live.{Live}

-- ---- levels

half_some : (d : ℕ) → 1 ≤ half (suc d)
half_some zero = let e = half_one in omega arith
half_some (suc d) = let e = half_more d in let r = half_some d in omega arith

-- the middle of a range fits 64 bits, and each half of it is a range
pub record IsMiddle (h low : ℕ) : Type 0 where
  pub fits : low + h < 18446744073709551616
  pub lower : low + h ≤ 18446744073709551616
  pub upper : (low + h) + h ≤ 18446744073709551616

pub middle_is : (level low : ℕ) → 0 < level → low < 18446744073709551616 → low + half level ≤ 18446744073709551616 → IsMiddle (half (level - 1)) low
middle_is zero low h f r = absurd (omega arith)
middle_is (suc zero) low h f r = let e : half (suc zero - 1) ≡ 0 = half_none in record { fits = omega arith; lower = omega arith; upper = omega arith }
middle_is (suc (suc d)) low h f r =
    let s : suc (suc d) - 1 ≡ suc d = omega arith in
    let t = two_halves (suc d) in
    let o = half_some d in
    let m : IsMiddle (half (suc d)) low = record { fits = omega arith; lower = omega arith; upper = omega arith } in
    subst (λ (n : ℕ). IsMiddle (half n) low) (sym s) m

-- ---- arenas

pub tree_none : (nodes : List Halves) (level : ℕ) → tree_of nodes level None ≡ Empty
tree_none nodes zero = refl
tree_none nodes (suc d) = refl

pub linked : (nodes : List Halves) (level d : ℕ) (root : Branch) (branch : Option Branch) → level ≡ suc d → branch ≡ Some root → tree_of nodes level branch ≡ Fork root.at root.count root.segment (tree_of nodes d (at nodes root.at).lower) (tree_of nodes d (at nodes root.at).upper)
linked nodes level d root branch e h = rw (e, h) refl

pub other_slot : (j i n : ℕ) (s : Live) (l u : Ordered) → has j (Fork i n s l u) ≡ false → (nat_eq j i ≡ false) × (has j l ≡ false) × (has j u ≡ false)
other_slot j i n s l u h =
    let a = or_false (nat_eq j i) (has j l || has j u) h in
    let b = or_false (has j l) (has j u) a.1 in
    (a.0, b.0, b.1)

-- arenas that agree at the slots of a tree hold the same one
pub framed : (d : ℕ) (old new : List Halves) (branch : Option Branch) → ((j : ℕ) → has j (tree_of old d branch) ≡ true → at new j ≡ at old j) → tree_of new d branch ≡ tree_of old d branch
framed zero old new None f = refl
framed zero old new (Some root) f = refl
framed (suc d) old new None f = refl
framed (suc d) old new (Some root) f =
    let i = root.at in
    let n = root.count in
    let s = root.segment in
    let l = tree_of old d (at old i).lower in
    let u = tree_of old d (at old i).upper in
    let same : at new i ≡ at old i = f i (or_left (nat_eq i i) (has i l || has i u) (same_test i)) in
    let x = framed d old new (at old i).lower (λ j k. f j (or_right (nat_eq j i) (has j l || has j u) (or_left (has j l) (has j u) k))) in
    let y = framed d old new (at old i).upper (λ j k. f j (or_right (nat_eq j i) (has j l || has j u) (or_right (has j l) (has j u) k))) in
    ap (λ (v : Halves). Fork i n s (tree_of new d v.lower) (tree_of new d v.upper)) same ∙ (ap (λ (t : Ordered). Fork i n s t (tree_of new d (at old i).upper)) x ∙ ap (λ (t : Ordered). Fork i n s l t) y)

-- a write elsewhere
pub framed_set : (d : ℕ) (nodes : List Halves) (branch : Option Branch) (i : ℕ) (v : Halves) → has i (tree_of nodes d branch) ≡ false → tree_of (set nodes i v) d branch ≡ tree_of nodes d branch
framed_set d nodes branch i v h = framed d nodes (set nodes i v) branch (λ j k. get_or-set_other nodes i j v blank (λ e. let q = sym k ∙ (ap (λ (x : ℕ). has x (tree_of nodes d branch)) e ∙ h) in absurd (cc)))

-- halves written over others, of which one was changed
pub rebuilt : (new : List Halves) (d i n : ℕ) (s : Live) (lower upper : Option Branch) (l u : Ordered) → i < length new → tree_of new d lower ≡ l → tree_of new d upper ≡ u → has i l ≡ false → has i u ≡ false
    → tree_of (set new i (record { lower = lower; upper = upper })) (suc d) (Some (record { at = i; count = n; segment = s })) ≡ Fork i n s l u
rebuilt new d i n s lower upper l u here e f h k =
    let v : Halves = record { lower = lower; upper = upper } in
    let same : at (set new i v) i ≡ v = get_or-set_same new i v blank here in
    let a = framed_set d new lower i v (ap (has i) e ∙ h) ∙ e in
    let b = framed_set d new upper i v (ap (has i) f ∙ k) ∙ f in
    ap (λ (w : Halves). Fork i n s (tree_of (set new i v) d w.lower) (tree_of (set new i v) d w.upper)) same ∙ (ap (λ (t : Ordered). Fork i n s t (tree_of (set new i v) d upper)) a ∙ ap (λ (t : Ordered). Fork i n s l t) b)

-- what is known of the parts of a tree
pub record Parts (nodes : List Halves) (d i : ℕ) : Type 0 where
  pub here : i < length nodes
  pub within_lower : IsWithinArena (length nodes) (tree_of nodes d (at nodes i).lower)
  pub within_upper : IsWithinArena (length nodes) (tree_of nodes d (at nodes i).upper)
  pub apart_lower : IsApart (tree_of nodes d (at nodes i).lower)
  pub apart_upper : IsApart (tree_of nodes d (at nodes i).upper)
  pub root_lower : has i (tree_of nodes d (at nodes i).lower) ≡ false
  pub root_upper : has i (tree_of nodes d (at nodes i).upper) ≡ false
  pub sides : (j : ℕ) → has j (tree_of nodes d (at nodes i).lower) ≡ true → has j (tree_of nodes d (at nodes i).upper) ≡ false

pub parts : (nodes : List Halves) (level d : ℕ) (root : Branch) (branch : Option Branch) → level ≡ suc d → branch ≡ Some root → IsWithinArena (length nodes) (tree_of nodes level branch) → IsApart (tree_of nodes level branch) → Parts nodes d root.at
parts nodes level d root branch e h within apart =
    let t = linked nodes level d root branch e h in
    let w = subst (IsWithinArena (length nodes)) t within in
    let a = subst IsApart t apart in
    record { here = w.0; within_lower = w.1; within_upper = w.2; apart_lower = a.3; apart_upper = a.4; root_lower = a.0; root_upper = a.1; sides = a.2 }

-- other slots of the arena
pub others_kept : (old new : List Halves) (level d : ℕ) (root : Branch) (branch : Option Branch) (part : Ordered) (v : Halves) → level ≡ suc d → branch ≡ Some root
    → ((j : ℕ) → has j (tree_of old d (at old root.at).lower) ≡ false → has j (tree_of old d (at old root.at).upper) ≡ false → has j part ≡ false) → ((j : ℕ) → has j part ≡ false → at new j ≡ at old j)
    → (j : ℕ) → has j (tree_of old level branch) ≡ false → at (set new root.at v) j ≡ at old j
others_kept old new level d root branch part v e h f others j q =
    let o = other_slot j root.at root.count root.segment (tree_of old d (at old root.at).lower) (tree_of old d (at old root.at).upper) (sym (ap (has j) (linked old level d root branch e h)) ∙ q) in
    get_or-set_other new root.at j v blank (test_differ j root.at o.0) ∙ others j (f j o.1 o.2)

-- ---- a segment more

pub has_push : (d low slot : ℕ) (new : Live) (tree : Ordered) (j : ℕ) → has j tree ≡ false → j ≢ slot → has j (push d low slot new tree) ≡ false
has_push zero low slot new tree j h n = h
has_push (suc d) low slot new Empty j h n = or_joined (nat_eq j slot) false (differ_test j slot n) refl
has_push (suc d) low slot new (Fork i m s l u) j h n =
    let o = other_slot j i m s l u h in
    elim (nat_lt new.id (low + half d)) as (λ b. has j (cond b (Fork i (m + 1) s (push d low slot new l) u) (Fork i (m + 1) s l (push d (low + half d) slot new u))) ≡ false) [
      | true ↦ or_joined _ _ o.0 (or_joined _ _ (has_push d low slot new l j o.1 n) o.2)
      | false ↦ or_joined _ _ o.0 (or_joined _ _ o.1 (has_push d (low + half d) slot new u j o.2 n))
    ]

pub pushed_first : (nodes : List Halves) (level d low slot : ℕ) (new : Live) (branch : Option Branch) → level ≡ suc d → branch ≡ None → slot < length nodes → tree_of (set nodes slot blank) level (Some (record { at = slot; count = 1; segment = new })) ≡ push level low slot new (tree_of nodes level branch)
pushed_first nodes level d low slot new branch e h l =
    let s : at (set nodes slot blank) slot ≡ blank = get_or-set_same nodes slot blank blank l in
    rw (e, h) (ap (λ (n : Halves). Fork slot 1 new (tree_of (set nodes slot blank) d n.lower) (tree_of (set nodes slot blank) d n.upper)) s ∙ (ap (λ (t : Ordered). Fork slot 1 new t (tree_of (set nodes slot blank) d None)) (tree_none (set nodes slot blank) d) ∙ ap (λ (t : Ordered). Fork slot 1 new Empty t) (tree_none (set nodes slot blank) d)))

pub pushed_lower : (old new : List Halves) (level d low slot : ℕ) (root : Branch) (s : Live) (branch lower : Option Branch) → level ≡ suc d → branch ≡ Some root → Parts old d root.at → has slot (tree_of old level branch) ≡ false → root.at < length new → s.id < low + half d
    → tree_of new d lower ≡ push d low slot s (tree_of old d (at old root.at).lower) → ((j : ℕ) → has j (tree_of old d (at old root.at).lower) ≡ false → j ≢ slot → at new j ≡ at old j)
    → tree_of (set new root.at (record { lower = lower; upper = (at old root.at).upper })) level (Some (record { at = root.at; count = root.count + 1; segment = root.segment })) ≡ push level low slot s (tree_of old level branch)
pushed_lower old new level d low slot root s branch lower e h p fresh here k tree others =
    let i = root.at in
    let l = tree_of old d (at old i).lower in
    let u = tree_of old d (at old i).upper in
    let whole = linked old level d root branch e h in
    let o = other_slot slot i root.count root.segment l u (sym (ap (has slot) whole) ∙ fresh) in
    let v : Halves = record { lower = lower; upper = (at old i).upper } in
    let w = framed d old new (at old i).upper (λ j q. others j (contrary (has j l) (has j u) (p.sides j) q) (λ x. let z = sym q ∙ (ap (λ (y : ℕ). has y u) x ∙ o.2) in absurd (cc))) in
    let built = rebuilt new d i (root.count + 1) root.segment lower (at old i).upper (push d low slot s l) u here tree w (has_push d low slot s l i p.root_lower (λ x. test_differ slot i o.0 (sym x))) p.root_upper in
    ap (λ (n : ℕ). tree_of (set new i v) n (Some (record { at = i; count = root.count + 1; segment = root.segment }))) e
    ∙ (built ∙ (sym (cond_true (nat_lt s.id (low + half d)) (Fork i (root.count + 1) root.segment (push d low slot s l) u) (Fork i (root.count + 1) root.segment l (push d (low + half d) slot s u)) (lt_true _ _ k))
    ∙ (sym (ap (λ (n : ℕ). push n low slot s (Fork i root.count root.segment l u)) e) ∙ sym (ap (push level low slot s) whole))))

pub pushed_upper : (old new : List Halves) (level d low slot : ℕ) (root : Branch) (s : Live) (branch upper : Option Branch) → level ≡ suc d → branch ≡ Some root → Parts old d root.at → has slot (tree_of old level branch) ≡ false → root.at < length new → low + half d ≤ s.id
    → tree_of new d upper ≡ push d (low + half d) slot s (tree_of old d (at old root.at).upper) → ((j : ℕ) → has j (tree_of old d (at old root.at).upper) ≡ false → j ≢ slot → at new j ≡ at old j)
    → tree_of (set new root.at (record { lower = (at old root.at).lower; upper = upper })) level (Some (record { at = root.at; count = root.count + 1; segment = root.segment })) ≡ push level low slot s (tree_of old level branch)
pushed_upper old new level d low slot root s branch upper e h p fresh here k tree others =
    let i = root.at in
    let l = tree_of old d (at old i).lower in
    let u = tree_of old d (at old i).upper in
    let whole = linked old level d root branch e h in
    let o = other_slot slot i root.count root.segment l u (sym (ap (has slot) whole) ∙ fresh) in
    let v : Halves = record { lower = (at old i).lower; upper = upper } in
    let w = framed d old new (at old i).lower (λ j q. others j (p.sides j q) (λ x. let z = sym q ∙ (ap (λ (y : ℕ). has y l) x ∙ o.1) in absurd (cc))) in
    let built = rebuilt new d i (root.count + 1) root.segment (at old i).lower upper l (push d (low + half d) slot s u) here w tree p.root_lower (has_push d (low + half d) slot s u i p.root_upper (λ x. test_differ slot i o.0 (sym x))) in
    ap (λ (n : ℕ). tree_of (set new i v) n (Some (record { at = i; count = root.count + 1; segment = root.segment }))) e
    ∙ (built ∙ (sym (cond_false (nat_lt s.id (low + half d)) (Fork i (root.count + 1) root.segment (push d low slot s l) u) (Fork i (root.count + 1) root.segment l (push d (low + half d) slot s u)) (lt_false _ _ k))
    ∙ (sym (ap (λ (n : ℕ). push n low slot s (Fork i root.count root.segment l u)) e) ∙ sym (ap (push level low slot s) whole))))

pub pushed_others : (old new : List Halves) (level d slot : ℕ) (root : Branch) (branch : Option Branch) (part : Ordered) (v : Halves) → level ≡ suc d → branch ≡ Some root
    → ((j : ℕ) → has j (tree_of old d (at old root.at).lower) ≡ false → has j (tree_of old d (at old root.at).upper) ≡ false → has j part ≡ false) → ((j : ℕ) → has j part ≡ false → j ≢ slot → at new j ≡ at old j)
    → (j : ℕ) → has j (tree_of old level branch) ≡ false → j ≢ slot → at (set new root.at v) j ≡ at old j
pushed_others old new level d slot root branch part v e h f others j q n =
    let o = other_slot j root.at root.count root.segment (tree_of old d (at old root.at).lower) (tree_of old d (at old root.at).upper) (sym (ap (has j) (linked old level d root branch e h)) ∙ q) in
    get_or-set_other new root.at j v blank (test_differ j root.at o.0) ∙ others j (f j o.1 o.2) n

-- ---- the oldest goes

pub has_pop : (tree : Ordered) (j : ℕ) → has j tree ≡ false → has j (pop tree) ≡ false
has_pop Empty j h = h
has_pop (Fork i n s Empty Empty) j h = refl
has_pop (Fork i n s Empty (Fork k m t l u)) j h = let o = other_slot j i n s Empty (Fork k m t l u) h in or_joined _ _ o.0 (has_pop (Fork k m t l u) j o.2)
has_pop (Fork i n s (Fork k m t l u) upper) j h = let o = other_slot j i n s (Fork k m t l u) upper h in or_joined _ _ o.0 (or_joined _ _ (has_pop (Fork k m t l u) j o.1) o.2)

pop_lower : (nodes : List Halves) (d i n : ℕ) (s : Live) (child : Branch) (u : Ordered) → pop (Fork i n s (tree_of nodes d (Some child)) u) ≡ Fork i (n - 1) child.segment (pop (tree_of nodes d (Some child))) u
pop_lower nodes zero i n s child u = refl
pop_lower nodes (suc d) i n s child u = refl

pop_upper : (nodes : List Halves) (d i n : ℕ) (s : Live) (child : Branch) → pop (Fork i n s Empty (tree_of nodes d (Some child))) ≡ Fork i (n - 1) child.segment Empty (pop (tree_of nodes d (Some child)))
pop_upper nodes zero i n s child = refl
pop_upper nodes (suc d) i n s child = refl

freed_lower : (nodes : List Halves) (d i n : ℕ) (s : Live) (child : Branch) (u : Ordered) → freed (Fork i n s (tree_of nodes d (Some child)) u) ≡ freed (tree_of nodes d (Some child))
freed_lower nodes zero i n s child u = refl
freed_lower nodes (suc d) i n s child u = refl

freed_upper : (nodes : List Halves) (d i n : ℕ) (s : Live) (child : Branch) → freed (Fork i n s Empty (tree_of nodes d (Some child))) ≡ freed (tree_of nodes d (Some child))
freed_upper nodes zero i n s child = refl
freed_upper nodes (suc d) i n s child = refl

-- the tree below a root whose halves are these
seen : (old : List Halves) (level d : ℕ) (root : Branch) (l u : Option Branch) → level ≡ suc d → (at old root.at).lower ≡ l → (at old root.at).upper ≡ u → tree_of old level (Some root) ≡ Fork root.at root.count root.segment (tree_of old d l) (tree_of old d u)
seen old level d root l u e a b = linked old level d root (Some root) e refl ∙ (ap (λ (x : Option Branch). Fork root.at root.count root.segment (tree_of old d x) (tree_of old d (at old root.at).upper)) a ∙ ap (λ (x : Option Branch). Fork root.at root.count root.segment (tree_of old d l) (tree_of old d x)) b)

pub popped_lower : (old new : List Halves) (level d : ℕ) (root child : Branch) (rest : Option Branch) → level ≡ suc d → (at old root.at).lower ≡ Some child → IsApart (tree_of old level (Some root)) → root.at < length new
    → tree_of new d rest ≡ pop (tree_of old d (Some child)) → ((j : ℕ) → has j (tree_of old d (Some child)) ≡ false → at new j ≡ at old j)
    → (top : Branch) → top ≡ record { at = root.at; count = root.count - 1; segment = child.segment }
    → tree_of (set new root.at (record { lower = rest; upper = (at old root.at).upper })) level (Some top) ≡ pop (tree_of old level (Some root))
popped_lower old new level d root child rest e c apart here tree others top is =
    let i = root.at in
    let l = tree_of old d (Some child) in
    let u = tree_of old d (at old i).upper in
    let whole = seen old level d root (Some child) (at old i).upper e c refl in
    let a = subst IsApart whole apart in
    let w = framed d old new (at old i).upper (λ j q. others j (contrary (has j l) (has j u) (a.2 j) q)) in
    let v : Halves = record { lower = rest; upper = (at old i).upper } in
    let built = rebuilt new d i (root.count - 1) child.segment rest (at old i).upper (pop l) u here tree w (has_pop l i a.0) a.1 in
    ap (λ (b : Branch). tree_of (set new i v) level (Some b)) is
    ∙ (ap (λ (n : ℕ). tree_of (set new i v) n (Some (record { at = i; count = root.count - 1; segment = child.segment }))) e
    ∙ (built ∙ (sym (pop_lower old d i root.count root.segment child u) ∙ sym (ap pop whole))))

pub popped_upper : (old new : List Halves) (level d : ℕ) (root child : Branch) (rest : Option Branch) → level ≡ suc d → (at old root.at).lower ≡ None → (at old root.at).upper ≡ Some child → IsApart (tree_of old level (Some root)) → root.at < length new
    → tree_of new d rest ≡ pop (tree_of old d (Some child)) → (top : Branch) → top ≡ record { at = root.at; count = root.count - 1; segment = child.segment }
    → tree_of (set new root.at (record { lower = None; upper = rest })) level (Some top) ≡ pop (tree_of old level (Some root))
popped_upper old new level d root child rest e b c apart here tree top is =
    let i = root.at in
    let u = tree_of old d (Some child) in
    let whole = seen old level d root None (Some child) e b c ∙ ap (λ (t : Ordered). Fork i root.count root.segment t u) (tree_none old d) in
    let a = subst IsApart whole apart in
    let v : Halves = record { lower = None; upper = rest } in
    let built = rebuilt new d i (root.count - 1) child.segment None rest Empty (pop u) here (tree_none new d) tree refl (has_pop u i a.1) in
    ap (λ (b : Branch). tree_of (set new i v) level (Some b)) is
    ∙ (ap (λ (n : ℕ). tree_of (set new i v) n (Some (record { at = i; count = root.count - 1; segment = child.segment }))) e
    ∙ (built ∙ (sym (pop_upper old d i root.count root.segment child) ∙ sym (ap pop whole))))

pub popped_last : (old : List Halves) (level d : ℕ) (root : Branch) → level ≡ suc d → (at old root.at).lower ≡ None → (at old root.at).upper ≡ None → (tree_of old level None ≡ pop (tree_of old level (Some root))) × (root.at ≡ freed (tree_of old level (Some root)))
popped_last old level d root e b c =
    let i = root.at in
    let whole = seen old level d root None None e b c ∙ (ap (λ (t : Ordered). Fork i root.count root.segment t (tree_of old d None)) (tree_none old d) ∙ ap (λ (t : Ordered). Fork i root.count root.segment Empty t) (tree_none old d)) in
    (tree_none old level ∙ sym (ap pop whole), sym (ap freed whole))

pub freed_of_lower : (old : List Halves) (level d : ℕ) (root child : Branch) (slot : ℕ) → level ≡ suc d → (at old root.at).lower ≡ Some child → slot ≡ freed (tree_of old d (Some child)) → slot ≡ freed (tree_of old level (Some root))
freed_of_lower old level d root child slot e c s =
    s ∙ (sym (freed_lower old d root.at root.count root.segment child (tree_of old d (at old root.at).upper)) ∙ sym (ap freed (seen old level d root (Some child) (at old root.at).upper e c refl)))

pub freed_of_upper : (old : List Halves) (level d : ℕ) (root child : Branch) (slot : ℕ) → level ≡ suc d → (at old root.at).lower ≡ None → (at old root.at).upper ≡ Some child → slot ≡ freed (tree_of old d (Some child)) → slot ≡ freed (tree_of old level (Some root))
freed_of_upper old level d root child slot e b c s =
    s ∙ (sym (freed_upper old d root.at root.count root.segment child) ∙ sym (ap freed (seen old level d root None (Some child) e b c ∙ ap (λ (t : Ordered). Fork root.at root.count root.segment t (tree_of old d (Some child))) (tree_none old d))))

-- ---- a segment goes

pub has_remove : (d low id : ℕ) (tree : Ordered) (j : ℕ) → has j tree ≡ false → has j (remove d low id tree) ≡ false
has_remove zero low id tree j h = h
has_remove (suc d) low id Empty j h = h
has_remove (suc d) low id (Fork i n s l u) j h =
    let o = other_slot j i n s l u h in
    let sides = cond (nat_lt id (low + half d)) (Fork i (n - 1) s (remove d low id l) u) (Fork i (n - 1) s l (remove d (low + half d) id u)) in
    elim (s.id == id) as (λ b. has j (cond b (pop (Fork i n s l u)) sides) ≡ false) [
      | true ↦ has_pop (Fork i n s l u) j h
      | false ↦ elim (nat_lt id (low + half d)) as (λ b. has j (cond b (Fork i (n - 1) s (remove d low id l) u) (Fork i (n - 1) s l (remove d (low + half d) id u))) ≡ false) [
        | true ↦ or_joined _ _ o.0 (or_joined _ _ (has_remove d low id l j o.1) o.2)
        | false ↦ or_joined _ _ o.0 (or_joined _ _ o.1 (has_remove d (low + half d) id u j o.2))
      ]
    ]

pub removed_lower : (old new : List Halves) (level d low id : ℕ) (root : Branch) (branch rest : Option Branch) → level ≡ suc d → branch ≡ Some root → (root.segment.id == id) ≡ false → id < low + half d → Parts old d root.at → root.at < length new
    → tree_of new d rest ≡ remove d low id (tree_of old d (at old root.at).lower) → ((j : ℕ) → has j (tree_of old d (at old root.at).lower) ≡ false → at new j ≡ at old j)
    → (top : Branch) → top ≡ record { at = root.at; count = root.count - 1; segment = root.segment }
    → tree_of (set new root.at (record { lower = rest; upper = (at old root.at).upper })) level (Some top) ≡ remove level low id (tree_of old level branch)
removed_lower old new level d low id root branch rest e h ne k p here tree others top is =
    let i = root.at in
    let n = root.count in
    let s = root.segment in
    let l = tree_of old d (at old i).lower in
    let u = tree_of old d (at old i).upper in
    let whole = linked old level d root branch e h in
    let v : Halves = record { lower = rest; upper = (at old i).upper } in
    let w = framed d old new (at old i).upper (λ j q. others j (contrary (has j l) (has j u) (p.sides j) q)) in
    let built = rebuilt new d i (n - 1) s rest (at old i).upper (remove d low id l) u here tree w (has_remove d low id l i p.root_lower) p.root_upper in
    let on_lower = Fork i (n - 1) s (remove d low id l) u in
    let on_upper = Fork i (n - 1) s l (remove d (low + half d) id u) in
    let q : remove (suc d) low id (Fork i n s l u) ≡ on_lower =
    cond_false (s.id == id) (pop (Fork i n s l u)) (cond (nat_lt id (low + half d)) on_lower on_upper) ne ∙ cond_true (nat_lt id (low + half d)) on_lower on_upper (lt_true _ _ k) in
    ap (λ (b : Branch). tree_of (set new i v) level (Some b)) is
    ∙ (ap (λ (m : ℕ). tree_of (set new i v) m (Some (record { at = i; count = n - 1; segment = s }))) e ∙ (built ∙ (sym q ∙ (sym (ap (λ (m : ℕ). remove m low id (Fork i n s l u)) e) ∙ sym (ap (remove level low id) whole)))))

pub removed_upper : (old new : List Halves) (level d low id : ℕ) (root : Branch) (branch rest : Option Branch) → level ≡ suc d → branch ≡ Some root → (root.segment.id == id) ≡ false → low + half d ≤ id → Parts old d root.at → root.at < length new
    → tree_of new d rest ≡ remove d (low + half d) id (tree_of old d (at old root.at).upper) → ((j : ℕ) → has j (tree_of old d (at old root.at).upper) ≡ false → at new j ≡ at old j)
    → (top : Branch) → top ≡ record { at = root.at; count = root.count - 1; segment = root.segment }
    → tree_of (set new root.at (record { lower = (at old root.at).lower; upper = rest })) level (Some top) ≡ remove level low id (tree_of old level branch)
removed_upper old new level d low id root branch rest e h ne k p here tree others top is =
    let i = root.at in
    let n = root.count in
    let s = root.segment in
    let l = tree_of old d (at old i).lower in
    let u = tree_of old d (at old i).upper in
    let whole = linked old level d root branch e h in
    let v : Halves = record { lower = (at old i).lower; upper = rest } in
    let w = framed d old new (at old i).lower (λ j q. others j (p.sides j q)) in
    let built = rebuilt new d i (n - 1) s (at old i).lower rest l (remove d (low + half d) id u) here w tree p.root_lower (has_remove d (low + half d) id u i p.root_upper) in
    let on_lower = Fork i (n - 1) s (remove d low id l) u in
    let on_upper = Fork i (n - 1) s l (remove d (low + half d) id u) in
    let q : remove (suc d) low id (Fork i n s l u) ≡ on_upper =
    cond_false (s.id == id) (pop (Fork i n s l u)) (cond (nat_lt id (low + half d)) on_lower on_upper) ne ∙ cond_false (nat_lt id (low + half d)) on_lower on_upper (lt_false _ _ k) in
    ap (λ (b : Branch). tree_of (set new i v) level (Some b)) is
    ∙ (ap (λ (m : ℕ). tree_of (set new i v) m (Some (record { at = i; count = n - 1; segment = s }))) e ∙ (built ∙ (sym q ∙ (sym (ap (λ (m : ℕ). remove m low id (Fork i n s l u)) e) ∙ sym (ap (remove level low id) whole)))))

-- ---- a level more

lifted_link : (nodes : List Halves) (d : ℕ) (root : Branch) → lifted (tree_of nodes d (Some root)) ≡ Fork (freed (tree_of nodes d (Some root))) root.count root.segment (pop (tree_of nodes d (Some root))) Empty
lifted_link nodes zero root = refl
lifted_link nodes (suc d) root = refl

pub lifted_is : (old new : List Halves) (level up : ℕ) (root : Branch) (slot : ℕ) (rest : Option Branch) → up ≡ suc level → slot < length new → tree_of new level rest ≡ pop (tree_of old level (Some root)) → slot ≡ freed (tree_of old level (Some root)) → has slot (pop (tree_of old level (Some root))) ≡ false
    → tree_of (set new slot (record { lower = rest; upper = None })) up (Some (record { at = slot; count = root.count; segment = root.segment })) ≡ lifted (tree_of old level (Some root))
lifted_is old new level up root slot rest e here tree s gone =
    let t = tree_of old level (Some root) in
    let v : Halves = record { lower = rest; upper = None } in
    let built = rebuilt new level slot root.count root.segment rest None (pop t) Empty here tree (tree_none new level) gone refl in
    ap (λ (n : ℕ). tree_of (set new slot v) n (Some (record { at = slot; count = root.count; segment = root.segment }))) e ∙ (built ∙ (ap (λ (n : ℕ). Fork n root.count root.segment (pop t) Empty) s ∙ sym (lifted_link old level root)))
