-- The slot that is added to a tree of segments, or taken from it, by what is done.
use Rattle.std.proofs.Common.{◌≡◌, ◌==◌, ℕ, zero, suc, ◌+◌, ◌-◌, Bool, true, false, cond, List, length, Some, None, nat_lt, refl, arith, ap, sym, ◌∙◌, subst, ◌++◌, inl, inr}
use Rattle.std.proofs.lemmas.Bool.{cases_lt}
use Rattle.std.proofs.lemmas.List.{length-append}
use Rattle.ms_gap_tree.proofs.Gains.{absent_loses, apart_loses, gained, within_loses, Gains, Last, Left, Right}
use Rattle.ms_gap_tree.proofs.Inserted.{cond_false, cond_true, lt_false, lt_true}
use Rattle.ms_gap_tree.proofs.Levels.{differ_test, or_joined}
use Rattle.ms_gap_tree.proofs.LowestLaw.{bool_cases}
use Rattle.ms_gap_tree.proofs.Pool.{has_within}
use Rattle.ms_gap_tree.specs.refinement.Tree.{half, size}
use Rattle.ms_live.specs.refinement.Ordered.{Ordered, Empty, Fork, at, freed, has, lifted, no_item, pop, remove, removed, seek, segments, shape, tree_of, IsApart, IsWithinArena}
use Rattle.ms_live.specs.declared.branch.Branch.{Branch}
use Rattle.ms_live.specs.declared.branch.Halves.{Halves}
use Rattle.ms_live.specs.declared.gaps.Live.{Live}

-- a slot for each segment
pub size_is : (tree : Ordered) → size (shape tree) ≡ length (segments tree)
size_is Empty = refl
size_is (Fork i n s l u) =
    let a = size_is l in
    let b = size_is u in
    let e : length (segments l ++ segments u) ≡ length (segments l) + length (segments u) = length-append (segments l) (segments u) in
    omega (arith, a, b, e)

-- ---- the oldest goes

abbrev is_fork : Ordered → Bool
is_fork Empty = false
is_fork (Fork i n s l u) = true

loses : (tree : Ordered) → is_fork tree ≡ true → Gains (freed tree) (shape (pop tree)) (shape tree)
loses Empty h = let q : false ≡ true = h in absurd (cc)
loses (Fork i n s Empty Empty) h = Last no_item
loses (Fork i n s Empty (Fork j k t l u)) h = let one = Fork j k t l u in Right i no_item no_item (shape Empty) (shape (pop one)) (shape one) (loses (Fork j k t l u) refl)
loses (Fork i n s (Fork j k t l u) upper) h = let one = Fork j k t l u in Left i no_item no_item (shape (pop one)) (shape one) (shape upper) (loses (Fork j k t l u) refl)

pub pop_loses : (i n : ℕ) (s : Live) (l u : Ordered) → Gains (freed (Fork i n s l u)) (shape (pop (Fork i n s l u))) (shape (Fork i n s l u))
pop_loses i n s l u = loses (Fork i n s l u) refl

pub freed_of : (nodes : List Halves) (level : ℕ) (root : Branch) → has (freed (tree_of nodes level (Some root))) (tree_of nodes level (Some root)) ≡ true
freed_of nodes zero root = gained _ _ _ (pop_loses root.at root.count root.segment Empty Empty)
freed_of nodes (suc d) root = gained _ _ _ (pop_loses root.at root.count root.segment (tree_of nodes d (at nodes root.at).lower) (tree_of nodes d (at nodes root.at).upper))

pub freed_gone : (tree : Ordered) → IsApart tree → has (freed tree) (pop tree) ≡ false
freed_gone Empty a = refl
freed_gone (Fork i n s l u) a = (apart_loses _ _ _ (pop_loses i n s l u) a).0

-- ---- a level more

pub has_lifted : (tree : Ordered) (j : ℕ) → has j tree ≡ false → has j (lifted tree) ≡ false
has_lifted Empty j h = h
has_lifted (Fork i n s l u) j h =
    let t = Fork i n s l u in
    let g = pop_loses i n s l u in
    or_joined _ _ (differ_test j (freed t) (λ e. let q = sym (gained (freed t) (shape (pop t)) (shape t) g) ∙ (sym (ap (λ (m : ℕ). has m t) e) ∙ h) in absurd (cc))) (or_joined _ _ (absent_loses (freed t) (shape (pop t)) (shape t) g j h) refl)

pub within_lifted : (tree : Ordered) (m : ℕ) → IsWithinArena m tree → IsWithinArena m (lifted tree)
within_lifted Empty m w = w
within_lifted (Fork i n s l u) m w =
    let t = Fork i n s l u in
    let g = pop_loses i n s l u in
    (has_within m (freed t) (shape t) w (gained (freed t) (shape (pop t)) (shape t) g), within_loses (freed t) (shape (pop t)) (shape t) g m w, tt)

pub apart_lifted : (tree : Ordered) → IsApart tree → IsApart (lifted tree)
apart_lifted Empty a = a
apart_lifted (Fork i n s l u) a =
    let t = Fork i n s l u in
    let p = apart_loses (freed t) (shape (pop t)) (shape t) (pop_loses i n s l u) a in
    (p.0, refl, λ j x. refl, p.1, tt)

-- ---- a segment goes

pub remove_loses : (d low id : ℕ) (tree : Ordered) (x : Live) → seek d low id tree ≡ Some x → (slot : ℕ) × (removed d low id tree ≡ Some slot) × Gains slot (shape (remove d low id tree)) (shape tree)
remove_loses zero low id tree x h = let q : None ≡ Some x = h in absurd (cc)
remove_loses (suc d) low id Empty x h = let q : None ≡ Some x = h in absurd (cc)
remove_loses (suc d) low id (Fork i n s l u) x h =
    let middle = low + half d in
    let whole = Fork i n s l u in
    let on_lower = Fork i (n - 1) s (remove d low id l) u in
    let on_upper = Fork i (n - 1) s l (remove d middle id u) in
    let below = cond (nat_lt id middle) (removed d low id l) (removed d middle id u) in
    elim (bool_cases (s.id == id)) [
      | inl e ↦ (
        freed whole,
        cond_true (s.id == id) (Some (freed whole)) below e,
        subst (λ (t : Ordered). Gains (freed whole) (shape t) (shape whole)) (sym (cond_true (s.id == id) (pop whole) (cond (nat_lt id middle) on_lower on_upper) e)) (pop_loses i n s l u),
      )
      | inr e ↦
          let q = sym (cond_false (s.id == id) (Some s) (cond (nat_lt id middle) (seek d low id l) (seek d middle id u)) e) ∙ h in
          let is = cond_false (s.id == id) (Some (freed whole)) below e in
          let rest = cond_false (s.id == id) (pop whole) (cond (nat_lt id middle) on_lower on_upper) e in
          elim (cases_lt id middle) [
            | inl k ↦
                let p = remove_loses d low id l x (sym (cond_true (nat_lt id middle) (seek d low id l) (seek d middle id u) (lt_true _ _ k)) ∙ q) in (
                  p.0,
                  is ∙ (cond_true (nat_lt id middle) (removed d low id l) (removed d middle id u) (lt_true _ _ k) ∙ p.1),
                  subst (λ (t : Ordered). Gains p.0 (shape t) (shape whole)) (sym (rest ∙ cond_true (nat_lt id middle) on_lower on_upper (lt_true _ _ k)))
                      (Left i no_item no_item (shape (remove d low id l)) (shape l) (shape u) p.2),
                )
            | inr k ↦
                let p = remove_loses d middle id u x (sym (cond_false (nat_lt id middle) (seek d low id l) (seek d middle id u) (lt_false _ _ k)) ∙ q) in (
                  p.0,
                  is ∙ (cond_false (nat_lt id middle) (removed d low id l) (removed d middle id u) (lt_false _ _ k) ∙ p.1),
                  subst (λ (t : Ordered). Gains p.0 (shape t) (shape whole)) (sym (rest ∙ cond_false (nat_lt id middle) on_lower on_upper (lt_false _ _ k)))
                      (Right i no_item no_item (shape l) (shape (remove d middle id u)) (shape u) p.2),
                )
          ]
    ]
