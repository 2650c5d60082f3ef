-- The slot that each operation adds to a tree, or takes from it.
use Rattle.std.proofs.Common.{◌≡◌, ◌≢◌, ℕ, zero, suc, ◌+◌, ◌<◌, ◌≤◌, true, false, cond, Some, None, nat_eq, nat_lt, refl, arith, ap, sym, ◌∙◌, subst, inl, inr}
use Rattle.std.proofs.lemmas.Bool.{cases_lt}
use Rattle.ms_gap_tree.specs.refinement.Tree.{Tree, Empty, Fork, first, freed, half, insert, is_empty, look, lower, pop, remove, removed, root, IsInOrder}
use Rattle.ms_gap_tree.specs.declared.node.Item.{Item}
use Rattle.ms_gap_tree.proofs.Gains.{Gains, Last, Left, Right}
use Rattle.ms_gap_tree.proofs.Inserted.{cond_true, cond_false, lt_true, lt_false}
use Rattle.ms_gap_tree.proofs.Laws.{absent, half_none, place, upper_range}
use Rattle.ms_gap_tree.proofs.Levels.{test_differ}
use Rattle.ms_gap_tree.proofs.LowestLaw.{bool_cases}
use Rattle.ms_gap_tree.proofs.PopLaws.{both_empty, first_some}

-- ---- an item more

-- an item over two halves, where the other one goes to its half
placed_gains : (d low slot i : ℕ) (old top rest : Item) (left right : Tree) → low ≤ rest.key → rest.key < low + half (suc d) → low ≤ top.key → top.key < low + half (suc d) → rest.key ≢ top.key
    → ((x : Item) → low ≤ x.key → x.key < low + half d → look d low x.key left ≡ None → Gains slot left (insert d low slot x left))
    → ((x : Item) → low + half d ≤ x.key → x.key < (low + half d) + half d → look d (low + half d) x.key right ≡ None → Gains slot right (insert d (low + half d) slot x right))
    → cond (nat_lt rest.key (low + half d)) (look d low rest.key left) (look d (low + half d) rest.key right) ≡ None → Gains slot (Fork i old left right) (place d low slot i top rest left right)
placed_gains d low slot i old top rest left right a b a' b' n l r g =
    let whole = Fork i old left right in
    let lesser = insert d low slot rest left in
    let greater = insert d (low + half d) slot rest right in
    elim (cases_lt rest.key (low + half d)) [
      | inl h ↦
          subst (Gains slot whole) (sym (cond_true (nat_lt rest.key (low + half d)) (Fork i top lesser right) (Fork i top left greater) (lt_true _ _ h)))
          (Left i old top left lesser right (l rest a h (sym (cond_true _ _ _ (lt_true _ _ h)) ∙ g)))
      | inr h ↦
          subst (Gains slot whole) (sym (cond_false (nat_lt rest.key (low + half d)) (Fork i top lesser right) (Fork i top left greater) (lt_false _ _ h)))
          (Right i old top left right greater (r rest h (upper_range d low rest.key top.key a b a' b' n h) (sym (cond_false _ _ _ (lt_false _ _ h)) ∙ g)))
    ]

pub insert_gains : (d low slot : ℕ) (tree : Tree) → IsInOrder d low tree → (new : Item) → low ≤ new.key → new.key < low + half d → look d low new.key tree ≡ None → Gains slot tree (insert d low slot new tree)
insert_gains zero low slot tree s new a b n = let x = half_none in absurd (omega arith)
insert_gains (suc d) low slot Empty s new a b n = Last new
insert_gains (suc d) low slot (Fork i item left right) s new a b n =
    let out = absent (nat_eq new.key item.key) item.room _ n in
    let ne = test_differ new.key item.key out.0 in
    let l = insert_gains d low slot left s.5 in
    let r = insert_gains d (low + half d) slot right s.6 in
    let Gain = λ (top rest : Item). Gains slot (Fork i item left right) (place d low slot i top rest left right) in
    elim (cases_lt item.room new.room) [
      | inl h ↦
          subst (λ (x : Item). Gain x (lower item new)) (sym (cond_true (nat_lt item.room new.room) new item (lt_true _ _ h)))
          (subst (λ (x : Item). Gain new x) (sym (cond_true (nat_lt item.room new.room) item new (lt_true _ _ h))) (placed_gains d low slot i item new item left right s.0 s.1 a b (λ e. ne (sym e)) l r s.2))
      | inr h ↦
          subst (λ (x : Item). Gain x (lower item new)) (sym (cond_false (nat_lt item.room new.room) new item (lt_false _ _ h)))
          (subst (λ (x : Item). Gain item x) (sym (cond_false (nat_lt item.room new.room) item new (lt_false _ _ h))) (placed_gains d low slot i item item new left right a b s.0 s.1 ne l r out.1))
    ]

-- ---- an item less

-- the same of a tree that is known in other words
said : (old less part : Tree) (slot one : ℕ) → slot ≡ one → less ≡ part → Gains one part old → Gains slot less old
said old less part slot one s e g = subst (λ (j : ℕ). Gains j less old) (sym s) (subst (λ (t : Tree). Gains one t old) (sym e) g)

pub pop_loses : (tree : Tree) → is_empty tree ≡ false → Gains (freed tree) (pop tree) tree
pop_loses Empty e = let q : true ≡ false = e in absurd (cc)
pop_loses (Fork i item left right) e =
    let whole = Fork i item left right in
    let on_left = Fork i (root left) (pop left) right in
    let on_right = Fork i (root right) left (pop right) in
    elim (bool_cases (first left right)) [
      | inl f ↦
          said whole (pop whole) on_left (freed whole) (freed left) (cond_true (first left right) (freed left) (cond (is_empty right) i (freed right)) f) (cond_true (first left right) on_left (cond (is_empty right) Empty on_right) f)
          (Left i (root left) item (pop left) left right (pop_loses left (first_some left right f)))
      | inr f ↦ elim (bool_cases (is_empty right)) [
        | inl none ↦
            let both = both_empty left right f none in
            let alone : Fork i item Empty Empty ≡ whole = ap (λ (t : Tree). Fork i item t Empty) (sym both.0) ∙ ap (λ (t : Tree). Fork i item left t) (sym both.1) in
            said whole (pop whole) Empty (freed whole) i (cond_false (first left right) (freed left) (cond (is_empty right) i (freed right)) f ∙ cond_true (is_empty right) i (freed right) none)
            (cond_false (first left right) on_left (cond (is_empty right) Empty on_right) f ∙ cond_true (is_empty right) Empty on_right none) (subst (Gains i Empty) alone (Last item))
        | inr some ↦
            said whole (pop whole) on_right (freed whole) (freed right) (cond_false (first left right) (freed left) (cond (is_empty right) i (freed right)) f ∙ cond_false (is_empty right) i (freed right) some)
            (cond_false (first left right) on_left (cond (is_empty right) Empty on_right) f ∙ cond_false (is_empty right) Empty on_right some) (Right i (root right) item left (pop right) right (pop_loses right some))
      ]
    ]

pub remove_loses : (d low key : ℕ) (tree : Tree) (room : ℕ) → look d low key tree ≡ Some room → (slot : ℕ) × (removed d low key tree ≡ Some slot) × Gains slot (remove d low key tree) tree
remove_loses zero low key tree room h = let q : None ≡ Some room = h in absurd (cc)
remove_loses (suc d) low key Empty room h = let q : None ≡ Some room = h in absurd (cc)
remove_loses (suc d) low key (Fork i item left right) room h =
    let middle = low + half d in
    let whole = Fork i item left right in
    let on_left = Fork i item (remove d low key left) right in
    let on_right = Fork i item left (remove d middle key right) in
    let below = cond (nat_lt key middle) (removed d low key left) (removed d middle key right) in
    elim (bool_cases (nat_eq key item.key)) [
      | inl e ↦ (
        freed whole,
        cond_true (nat_eq key item.key) (Some (freed whole)) below e,
        subst (λ (t : Tree). Gains (freed whole) t whole) (sym (cond_true (nat_eq key item.key) (pop whole) (cond (nat_lt key middle) on_left on_right) e)) (pop_loses whole refl),
      )
      | inr e ↦
          let q = sym (cond_false (nat_eq key item.key) (Some item.room) (cond (nat_lt key middle) (look d low key left) (look d middle key right)) e) ∙ h in
          let is = cond_false (nat_eq key item.key) (Some (freed whole)) below e in
          let rest = cond_false (nat_eq key item.key) (pop whole) (cond (nat_lt key middle) on_left on_right) e in
          elim (cases_lt key middle) [
            | inl l ↦
                let p = remove_loses d low key left room (sym (cond_true _ _ _ (lt_true _ _ l)) ∙ q) in (
                  p.0,
                  is ∙ (cond_true (nat_lt key middle) (removed d low key left) (removed d middle key right) (lt_true _ _ l) ∙ p.1),
                  subst (λ (t : Tree). Gains p.0 t whole) (sym (rest ∙ cond_true (nat_lt key middle) on_left on_right (lt_true _ _ l))) (Left i item item (remove d low key left) left right p.2),
                )
            | inr l ↦
                let p = remove_loses d middle key right room (sym (cond_false _ _ _ (lt_false _ _ l)) ∙ q) in (
                  p.0,
                  is ∙ (cond_false (nat_lt key middle) (removed d low key left) (removed d middle key right) (lt_false _ _ l) ∙ p.1),
                  subst (λ (t : Tree). Gains p.0 t whole) (sym (rest ∙ cond_false (nat_lt key middle) on_left on_right (lt_false _ _ l))) (Right i item item left (remove d middle key right) right p.2),
                )
          ]
    ]
