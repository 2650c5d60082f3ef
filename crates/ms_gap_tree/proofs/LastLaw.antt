-- The search for the item of the greatest key up to another finds it.
use Rattle.std.proofs.Common.{◌≡◌, ◌≢◌, ℕ, zero, suc, ◌+◌, ◌<◌, ◌≤◌, cond, Option, Some, None, nat_eq, nat_lt, nat_le, refl, arith, ap, sym, ◌∙◌, subst, inl, inr}
use Rattle.std.proofs.lemmas.Bool.{cases_lt}
use Rattle.ms_gap_tree.specs.refinement.Rooms.{IsLast}
use Rattle.ms_gap_tree.specs.refinement.Tree.{Tree, Empty, Fork, either, half, last, look, nearer, IsInOrder}
use Rattle.ms_gap_tree.specs.declared.node.Item.{Item}
use Rattle.ms_gap_tree.proofs.Inserted.{cond_true, cond_false, lt_true, lt_false}
use Rattle.ms_gap_tree.proofs.Levels.{differ_test, same_test}
use Rattle.ms_gap_tree.proofs.LowestLaw.{bool_cases, in_range, test_gt, test_le}

-- the keys of two halves
abbrev both : ℕ → (ℕ → Option ℕ) → (ℕ → Option ℕ) → ℕ → Option ℕ
both middle f g j = cond (nat_lt j middle) (f j) (g j)

below : (middle j : ℕ) (f g : ℕ → Option ℕ) → j < middle → both middle f g j ≡ f j
below middle j f g h = cond_true _ _ _ (lt_true _ _ h)

above : (middle j : ℕ) (f g : ℕ → Option ℕ) → middle ≤ j → both middle f g j ≡ g j
above middle j f g h = cond_false _ _ _ (lt_false _ _ h)

-- up to a key of the lower half only that half counts
in_lower : (middle key : ℕ) (f g : ℕ → Option ℕ) (o : Option Item) → key < middle → IsLast f key o → IsLast (both middle f g) key o
in_lower middle key f g None h l = λ other b. below middle other f g (omega arith) ∙ l other b
in_lower middle key f g (Some x) h l =
    let k = l.1 in (below middle x.key f g (omega arith) ∙ l.0, l.1, λ other a b. below middle other f g (omega arith) ∙ l.2 other a b)

-- what the upper half has comes first
in_upper : (middle key : ℕ) (f g : ℕ → Option ℕ) (o p : Option Item) → middle ≤ key → ((j r : ℕ) → f j ≡ Some r → j < middle) → ((j r : ℕ) → g j ≡ Some r → middle ≤ j) → IsLast g key o → IsLast f key p → IsLast (both middle f g) key (either o p)
in_upper middle key f g (Some x) p h u v l m =
    let k = v x.key x.room l.0 in (above middle x.key f g k ∙ l.0, l.1, λ other a b. above middle other f g (omega arith) ∙ l.2 other a b)
in_upper middle key f g None None h u v l m = λ other b. elim (cases_lt other middle) [ inl c ↦ below middle other f g c ∙ m other b | inr c ↦ above middle other f g c ∙ l other b ]
in_upper middle key f g None (Some x) h u v l m =
    let k = u x.key x.room m.0 in (
      below middle x.key f g k ∙ m.0,
      m.1,
      λ other a b. elim (cases_lt other middle) [ inl c ↦ below middle other f g c ∙ m.2 other a b | inr c ↦ above middle other f g c ∙ l other b ],
    )

-- the keys with that of the root
abbrev with_root : Item → (ℕ → Option ℕ) → ℕ → Option ℕ
with_root item f j = cond (nat_eq j item.key) (Some item.room) (f j)

at_other : (item : Item) (f : ℕ → Option ℕ) (j : ℕ) → j ≢ item.key → with_root item f j ≡ f j
at_other item f j n = cond_false _ _ _ (differ_test j item.key n)

at_item : (item : Item) (f : ℕ → Option ℕ) → with_root item f item.key ≡ Some item.room
at_item item f = cond_true _ _ _ (same_test item.key)

of_root : (item : Item) (key : ℕ) (f : ℕ → Option ℕ) (o : Option Item) → f item.key ≡ None → IsLast f key o → IsLast (with_root item f) key (nearer key item o)
of_root item key f None n l =
    elim (bool_cases (nat_le item.key key)) [
      | inl e ↦
          let k = test_le _ _ e in
          subst (IsLast (with_root item f) key) (sym (cond_true (nat_le item.key key) (Some item) None e)) (at_item item f, k, λ other a b. at_other item f other (omega arith) ∙ l other b)
      | inr e ↦
          let k = test_gt _ _ e in
          subst (IsLast (with_root item f) key) (sym (cond_false (nat_le item.key key) (Some item) None e)) (λ other b. at_other item f other (omega arith) ∙ l other b)
    ]
of_root item key f (Some x) n l =
    let x_below = l.1 in
    let apart : x.key ≢ item.key = λ e. let q = sym (ap f e ∙ n) ∙ l.0 in absurd (cc) in
    elim (bool_cases (nat_le item.key key)) [
      | inl e ↦
          let k = test_le _ _ e in
          let here = cond_true (nat_le item.key key) (cond (nat_le x.key item.key) (Some item) (Some x)) (Some x) e in
          elim (bool_cases (nat_le x.key item.key)) [
            | inl c ↦
                let m = test_le _ _ c in
                subst (IsLast (with_root item f) key) (sym (here ∙ cond_true (nat_le x.key item.key) (Some item) (Some x) c)) (at_item item f, k, λ other a b. at_other item f other (omega arith) ∙ l.2 other (omega arith) b)
            | inr c ↦
                let m = test_gt _ _ c in
                subst (IsLast (with_root item f) key) (sym (here ∙ cond_false (nat_le x.key item.key) (Some item) (Some x) c)) (at_other item f x.key apart ∙ l.0, l.1, λ other a b. at_other item f other (omega arith) ∙ l.2 other a b)
          ]
      | inr e ↦
          let k = test_gt _ _ e in
          subst (IsLast (with_root item f) key) (sym (cond_false (nat_le item.key key) (cond (nat_le x.key item.key) (Some item) (Some x)) (Some x) e)) (at_other item f x.key apart ∙ l.0, l.1, λ other a b. at_other item f other (omega arith) ∙ l.2 other a b)
    ]

pub last_law : (d low key : ℕ) (tree : Tree) → IsInOrder d low tree → IsLast (λ j. look d low j tree) key (last d low key tree)
last_law zero low key tree s = λ other b. refl
last_law (suc d) low key Empty s = λ other b. refl
last_law (suc d) low key (Fork i item left right) s =
    let middle = low + half d in
    let f = λ (j : ℕ). look d low j left in
    let g = λ (j : ℕ). look d middle j right in
    let l = last_law d low key left s.5 in
    let r = last_law d middle key right s.6 in
    let p = last d low key left in
    let o = last d middle key right in
    let joined : IsLast (both middle f g) key (cond (nat_lt key middle) p (either o p)) =
    elim (cases_lt key middle) [
      | inl h ↦ subst (IsLast (both middle f g) key) (sym (cond_true (nat_lt key middle) p (either o p) (lt_true _ _ h))) (in_lower middle key f g p h l)
      | inr h ↦ subst (IsLast (both middle f g) key) (sym (cond_false (nat_lt key middle) p (either o p) (lt_false _ _ h))) (in_upper middle key f g o p h (λ j x e. (in_range d low left j x s.5 e).1) (λ j x e. (in_range d middle right j x s.6 e).0) r l)
    ] in
    of_root item key (both middle f g) (cond (nat_lt key middle) p (either o p)) s.2 joined
