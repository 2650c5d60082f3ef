-- What `pop` and `remove` do to the rooms that are kept, and that they keep a tree in order.
use Rattle.std.proofs.Common.{◌≡◌, ◌≢◌, ℕ, zero, suc, ◌+◌, ◌≤◌, Bool, true, false, cond, Option, Some, None, nat_eq, nat_lt, refl, arith, ap, sym, ◌∙◌, subst, inl, inr}
use Rattle.ms_gap_tree.specs.refinement.Tree.{Tree, Empty, Fork, first, half, is_empty, look, pop, root, IsBelow, IsInOrder}
use Rattle.ms_gap_tree.specs.declared.node.Item.{Item}
use Rattle.ms_gap_tree.proofs.Inserted.{cond_true, cond_false, lt_true, lt_false}
use Rattle.ms_gap_tree.proofs.Laws.{eq_lt, eq_ge}
use Rattle.ms_gap_tree.proofs.Levels.{differ_test, look_empty, same_test}
use Rattle.ms_gap_tree.proofs.LowestLaw.{bool_cases, in_range, test_eq, test_le, test_gt, two_halves}
use Rattle.ms_gap_tree.proofs.OrderLaws.{in_order_empty}

-- under the key of a root there is its room
look_root : (d low : ℕ) (tree : Tree) → IsInOrder d low tree → is_empty tree ≡ false → look d low (root tree).key tree ≡ Some (root tree).room
look_root d low Empty s e = let q : true ≡ false = e in absurd (cc)
look_root zero low (Fork i item left right) s e = absurd s
look_root (suc d) low (Fork i item left right) s e = cond_true _ _ _ (same_test item.key)

pub first_some : (left right : Tree) → first left right ≡ true → is_empty left ≡ false
first_some Empty right h = let q : false ≡ true = h in absurd (cc)
first_some (Fork i item l r) right h = refl

first_below : (left right : Tree) → first left right ≡ true → IsBelow (root left).room right
first_below Empty right h = let q : false ≡ true = h in absurd (cc)
first_below (Fork i item l r) Empty h = tt
first_below (Fork i item l r) (Fork j item' l' r') h = test_le item'.room item.room h

second_below : (left right : Tree) → first left right ≡ false → is_empty right ≡ false → IsBelow (root right).room left
second_below left Empty h e = let q : true ≡ false = e in absurd (cc)
second_below Empty (Fork j item' l' r') h e = tt
second_below (Fork i item l r) (Fork j item' l' r') h e = let q = test_gt item'.room item.room h in omega arith

pub both_empty : (left right : Tree) → first left right ≡ false → is_empty right ≡ true → (left ≡ Empty) × (right ≡ Empty)
both_empty Empty Empty h e = (refl, refl)
both_empty (Fork i item l r) Empty h e = let q : true ≡ false = h in absurd (cc)
both_empty left (Fork j item' l' r') h e = let q : false ≡ true = e in absurd (cc)

-- an item goes up from the lower half in place of the root
up_left : (gone up less : Bool) (old kept other : Option ℕ) (r s : ℕ) → (gone ≡ true → up ≡ false) → (gone ≡ true → cond less old other ≡ None) → (up ≡ true → less ≡ true) → (up ≡ true → old ≡ Some s) → kept ≡ cond up None old
    → cond up (Some s) (cond less kept other) ≡ cond gone None (cond gone (Some r) (cond less old other))
up_left true true less old kept other r s f g l o k = let q : true ≡ false = f refl in absurd (cc)
up_left true false true old kept other r s f g l o k = k ∙ g refl
up_left true false false old kept other r s f g l o k = g refl
up_left false true true old kept other r s f g l o k = sym (o refl)
up_left false true false old kept other r s f g l o k = let q : false ≡ true = l refl in absurd (cc)
up_left false false true old kept other r s f g l o k = k
up_left false false false old kept other r s f g l o k = refl

up_right : (gone up less : Bool) (old kept other : Option ℕ) (r s : ℕ) → (gone ≡ true → up ≡ false) → (gone ≡ true → cond less other old ≡ None) → (up ≡ true → less ≡ false) → (up ≡ true → old ≡ Some s) → kept ≡ cond up None old
    → cond up (Some s) (cond less other kept) ≡ cond gone None (cond gone (Some r) (cond less other old))
up_right true true less old kept other r s f g l o k = let q : true ≡ false = f refl in absurd (cc)
up_right true false false old kept other r s f g l o k = k ∙ g refl
up_right true false true old kept other r s f g l o k = g refl
up_right false true false old kept other r s f g l o k = sym (o refl)
up_right false true true old kept other r s f g l o k = let q : true ≡ false = l refl in absurd (cc)
up_right false false false old kept other r s f g l o k = k
up_right false false true old kept other r s f g l o k = refl

all_none : (gone less : Bool) (x y : Option ℕ) (r : ℕ) → x ≡ None → y ≡ None → cond gone None (cond gone (Some r) (cond less x y)) ≡ None
all_none true less x y r h k = refl
all_none false true x y r h k = h
all_none false false x y r h k = k

-- the law, for a tree that is not empty
abbrev PopLaw : ℕ → ℕ → ℕ → Tree → Type 0
PopLaw d low k tree = is_empty tree ≡ false → look d low k (pop tree) ≡ cond (nat_eq k (root tree).key) None (look d low k tree)

-- the root of a half is not the root, and has its side
apart_left : (d low i : ℕ) (item : Item) (left right : Tree) → IsInOrder (suc d) low (Fork i item left right) → is_empty left ≡ false → item.key ≢ (root left).key
apart_left d low i item left right s e q =
    let x = look_root d low left s.5 e in
    let y = in_range d low left (root left).key (root left).room s.5 x in
    let g = s.2 in
    let z : look d low item.key left ≡ None = sym (cond_true _ _ _ (lt_true item.key (low + half d) (omega arith))) ∙ g in
    let w = sym (ap (λ (n : ℕ). look d low n left) q) ∙ z in
    let v = sym x ∙ w in absurd (cc)

apart_right : (d low i : ℕ) (item : Item) (left right : Tree) → IsInOrder (suc d) low (Fork i item left right) → is_empty right ≡ false → item.key ≢ (root right).key
apart_right d low i item left right s e q =
    let x = look_root d (low + half d) right s.6 e in
    let y = in_range d (low + half d) right (root right).key (root right).room s.6 x in
    let g = s.2 in
    let z : look d (low + half d) item.key right ≡ None = sym (cond_false _ _ _ (lt_false item.key (low + half d) (omega arith))) ∙ g in
    let w = sym (ap (λ (n : ℕ). look d (low + half d) n right) q) ∙ z in
    let v = sym x ∙ w in absurd (cc)

-- nothing is kept under the key of the root, on its side
pub gone_at : (d low : ℕ) (key k : ℕ) (left right : Tree) → cond (nat_lt key (low + half d)) (look d low key left) (look d (low + half d) key right) ≡ None → nat_eq k key ≡ true → cond (nat_lt k (low + half d)) (look d low k left) (look d (low + half d) k right) ≡ None
gone_at d low key k left right g e = subst (λ (n : ℕ). cond (nat_lt n (low + half d)) (look d low n left) (look d (low + half d) n right) ≡ None) (sym (test_eq k key e)) g

pub look_pop : (d low : ℕ) (tree : Tree) (k : ℕ) → IsInOrder d low tree → PopLaw d low k tree
look_pop d low Empty k s e = let q : true ≡ false = e in absurd (cc)
look_pop zero low (Fork i item left right) k s e = absurd s
look_pop (suc d) low (Fork i item left right) k s e =
    let middle = low + half d in
    let lifted_left = Fork i (root left) (pop left) right in
    let lifted_right = Fork i (root right) left (pop right) in
    elim (bool_cases (first left right)) [
      | inl f ↦
          let some = first_some left right f in
          let x = look_root d low left s.5 some in
          let y = in_range d low left (root left).key (root left).room s.5 x in
          let n = apart_left d low i item left right s some in
          ap (look (suc d) low k) (cond_true (first left right) lifted_left (cond (is_empty right) Empty lifted_right) f)
          ∙ up_left (nat_eq k item.key) (nat_eq k (root left).key) (nat_lt k middle) (look d low k left) (look d low k (pop left)) (look d middle k right) item.room (root left).room
          (λ h. differ_test k (root left).key (λ q. n (sym (test_eq k item.key h) ∙ q))) (gone_at d low item.key k left right s.2) (eq_lt k (root left).key middle y.1)
          (λ h. subst (λ (m : ℕ). look d low m left ≡ Some (root left).room) (sym (test_eq k (root left).key h)) x) (look_pop d low left k s.5 some)
      | inr f ↦ elim (bool_cases (is_empty right)) [
        | inl none ↦
            let b = both_empty left right f none in
            ap (look (suc d) low k) (cond_false (first left right) lifted_left (cond (is_empty right) Empty lifted_right) f ∙ cond_true (is_empty right) Empty lifted_right none)
            ∙ sym (all_none (nat_eq k item.key) (nat_lt k middle) (look d low k left) (look d middle k right) item.room (ap (look d low k) b.0 ∙ look_empty d low k) (ap (look d middle k) b.1 ∙ look_empty d middle k))
        | inr some ↦
            let x = look_root d middle right s.6 some in
            let y = in_range d middle right (root right).key (root right).room s.6 x in
            let n = apart_right d low i item left right s some in
            ap (look (suc d) low k) (cond_false (first left right) lifted_left (cond (is_empty right) Empty lifted_right) f ∙ cond_false (is_empty right) Empty lifted_right some)
            ∙ up_right (nat_eq k item.key) (nat_eq k (root right).key) (nat_lt k middle) (look d middle k right) (look d middle k (pop right)) (look d low k left) item.room (root right).room
            (λ h. differ_test k (root right).key (λ q. n (sym (test_eq k item.key h) ∙ q))) (gone_at d low item.key k left right s.2) (eq_ge k (root right).key middle y.0)
            (λ h. subst (λ (m : ℕ). look d middle m right ≡ Some (root right).room) (sym (test_eq k (root right).key h)) x) (look_pop d middle right k s.6 some)
      ]
    ]

below_root : (tree : Tree) (m : ℕ) → IsBelow m tree → (root tree).room ≤ m
below_root Empty m b = omega arith
below_root (Fork i item left right) m b = b

-- no room is above that of the root that went
pub below_pop : (d low : ℕ) (tree : Tree) → IsInOrder d low tree → IsBelow (root tree).room (pop tree)
below_pop d low Empty s = tt
below_pop zero low (Fork i item left right) s = absurd s
below_pop (suc d) low (Fork i item left right) s =
    elim (first left right) as (λ b. IsBelow item.room (cond b (Fork i (root left) (pop left) right) (cond (is_empty right) Empty (Fork i (root right) left (pop right))))) [
      | true ↦ below_root left item.room s.3
      | false ↦ elim (is_empty right) as (λ b. IsBelow item.room (cond b Empty (Fork i (root right) left (pop right)))) [ true ↦ tt | false ↦ below_root right item.room s.4 ]
    ]

pub in_order_pop : (d low : ℕ) (tree : Tree) → IsInOrder d low tree → IsInOrder d low (pop tree)
in_order_pop d low Empty s = s
in_order_pop zero low (Fork i item left right) s = absurd s
in_order_pop (suc d) low (Fork i item left right) s =
    let middle = low + half d in
    let t = two_halves d in
    let lifted_left = Fork i (root left) (pop left) right in
    let lifted_right = Fork i (root right) left (pop right) in
    elim (bool_cases (first left right)) [
      | inl f ↦
          let some = first_some left right f in
          let y = in_range d low left (root left).key (root left).room s.5 (look_root d low left s.5 some) in
          let now : cond (nat_lt (root left).key middle) (look d low (root left).key (pop left)) (look d middle (root left).key right) ≡ None =
          cond_true _ _ _ (lt_true _ _ y.1) ∙ (look_pop d low left (root left).key s.5 some ∙ cond_true _ _ _ (same_test (root left).key)) in
          subst (IsInOrder (suc d) low) (sym (cond_true (first left right) lifted_left (cond (is_empty right) Empty lifted_right) f))
          (y.0, omega arith, now, below_pop d low left s.5, first_below left right f, in_order_pop d low left s.5, s.6)
      | inr f ↦ elim (bool_cases (is_empty right)) [
        | inl none ↦ subst (IsInOrder (suc d) low) (sym (cond_false (first left right) lifted_left (cond (is_empty right) Empty lifted_right) f ∙ cond_true (is_empty right) Empty lifted_right none)) (in_order_empty (suc d) low)
        | inr some ↦
            let y = in_range d middle right (root right).key (root right).room s.6 (look_root d middle right s.6 some) in
            let now : cond (nat_lt (root right).key middle) (look d low (root right).key left) (look d middle (root right).key (pop right)) ≡ None =
            cond_false _ _ _ (lt_false _ _ y.0) ∙ (look_pop d middle right (root right).key s.6 some ∙ cond_true _ _ _ (same_test (root right).key)) in
            subst (IsInOrder (suc d) low) (sym (cond_false (first left right) lifted_left (cond (is_empty right) Empty lifted_right) f ∙ cond_false (is_empty right) Empty lifted_right some))
            (omega arith, omega arith, now, second_below left right f some, below_pop d middle right s.6, s.5, in_order_pop d middle right s.6)
      ]
    ]
