-- What the operations on the tree do to the rooms that are kept under its keys.
use Rattle.std.proofs.Common.{◌≡◌, ◌≢◌, ℕ, zero, suc, ◌+◌, ◌^◌, ◌<◌, ◌≤◌, Bool, true, false, cond, Option, Some, None, nat_eq, nat_lt, refl, arith, ap, sym, ◌∙◌, inl, inr}
use Rattle.std.proofs.Math.Nat.{two-pow-succ}
use Rattle.std.proofs.lemmas.Bool.{cases_lt}
use Rattle.std.proofs.lemmas.Bool.Decides.{nat_tests}
use Rattle.ms_gap_tree.specs.refinement.Tree.{Tree, Empty, Fork, half, insert, look, lower, IsInOrder}
use Rattle.ms_gap_tree.specs.declared.node.Item.{Item}
use Rattle.ms_gap_tree.proofs.Inserted.{cond_true, cond_false, lt_true, lt_false}
use Rattle.ms_gap_tree.proofs.Levels.{test_differ, look_empty}

pub half_more : (d : ℕ) → half (suc (suc d)) ≡ half (suc d) + half (suc d)
unfolding half
half_more d = let s : 2 ^ suc (suc d) ≡ 2 ^ suc d + 2 ^ suc d = two-pow-succ (suc d) in let t : 2 ^ suc d ≡ 2 ^ d + 2 ^ d = two-pow-succ d in omega arith

pub half_one : half 1 ≡ 1
unfolding half
half_one = refl

pub half_none : half 0 ≡ 0
unfolding half
half_none = refl

-- of two keys in the range of a tree one that is in the upper half is in its range
pub upper_range : (d low k m : ℕ) → low ≤ k → k < low + half (suc d) → low ≤ m → m < low + half (suc d) → k ≢ m → low + half d ≤ k → k < (low + half d) + half d
upper_range zero low k m a b c e n u = let x = half_one in let y = half_none in absurd (n (omega arith))
upper_range (suc d) low k m a b c e n u = let x = half_more d in omega arith

-- the root stays, and the new one goes to the lower half
under_left : (root new less : Bool) (old kept other : Option ℕ) (r s : ℕ) → (root ≡ true → new ≡ false) → (new ≡ true → less ≡ true) → kept ≡ cond new (Some s) old → cond root (Some r) (cond less kept other) ≡ cond new (Some s) (cond root (Some r) (cond less old other))
under_left true true less old kept other r s f g h = let q : true ≡ false = f refl in absurd (cc)
under_left true false less old kept other r s f g h = refl
under_left false true true old kept other r s f g h = h
under_left false true false old kept other r s f g h = let q : false ≡ true = g refl in absurd (cc)
under_left false false true old kept other r s f g h = h
under_left false false false old kept other r s f g h = refl

under_right : (root new less : Bool) (old kept other : Option ℕ) (r s : ℕ) → (root ≡ true → new ≡ false) → (new ≡ true → less ≡ false) → kept ≡ cond new (Some s) old → cond root (Some r) (cond less other kept) ≡ cond new (Some s) (cond root (Some r) (cond less other old))
under_right true true less old kept other r s f g h = let q : true ≡ false = f refl in absurd (cc)
under_right true false less old kept other r s f g h = refl
under_right false true false old kept other r s f g h = h
under_right false true true old kept other r s f g h = let q : true ≡ false = g refl in absurd (cc)
under_right false false false old kept other r s f g h = h
under_right false false true old kept other r s f g h = refl

-- the new one is the root, and the old root goes to the lower half
over_left : (root new less : Bool) (old kept other : Option ℕ) (r s : ℕ) → (root ≡ true → less ≡ true) → kept ≡ cond root (Some r) old → cond new (Some s) (cond less kept other) ≡ cond new (Some s) (cond root (Some r) (cond less old other))
over_left root true less old kept other r s g h = refl
over_left root false true old kept other r s g h = h
over_left true false false old kept other r s g h = let q : false ≡ true = g refl in absurd (cc)
over_left false false false old kept other r s g h = refl

over_right : (root new less : Bool) (old kept other : Option ℕ) (r s : ℕ) → (root ≡ true → less ≡ false) → kept ≡ cond root (Some r) old → cond new (Some s) (cond less other kept) ≡ cond new (Some s) (cond root (Some r) (cond less other old))
over_right root true less old kept other r s g h = refl
over_right root false false old kept other r s g h = h
over_right true false true old kept other r s g h = let q : true ≡ false = g refl in absurd (cc)
over_right false false true old kept other r s g h = refl

-- what is known of a key that the tree does not have
pub absent : (same : Bool) (r : ℕ) (rest : Option ℕ) → cond same (Some r) rest ≡ None → (same ≡ false) × (rest ≡ None)
absent true r rest h = absurd (cc)
absent false r rest h = (refl, h)

pub eq_lt : (k x m : ℕ) → x < m → nat_eq k x ≡ true → nat_lt k m ≡ true
eq_lt k x m h e = grind (arith, nat_tests)

pub eq_ge : (k x m : ℕ) → m ≤ x → nat_eq k x ≡ true → nat_lt k m ≡ false
eq_ge k x m h e = grind (arith, nat_tests)

eq_ne : (k x y : ℕ) → x ≢ y → nat_eq k y ≡ true → nat_eq k x ≡ false
eq_ne k x y h e = grind (arith, nat_tests)

-- the two ways to place an item over two halves
abbrev pub place : ℕ → ℕ → ℕ → ℕ → Item → Item → Tree → Tree → Tree
place d low slot i top rest left right = cond (nat_lt rest.key (low + half d)) (Fork i top (insert d low slot rest left) right) (Fork i top left (insert d (low + half d) slot rest right))

-- what the law says of a half
abbrev Law : ℕ → ℕ → ℕ → ℕ → Tree → Type 0
Law d low slot k tree = (x : Item) → low ≤ x.key → x.key < low + half d → look d low x.key tree ≡ None → look d low k (insert d low slot x tree) ≡ cond (nat_eq k x.key) (Some x.room) (look d low k tree)

look_under : (d low slot i : ℕ) (item new : Item) (left right : Tree) (k : ℕ) → IsInOrder (suc d) low (Fork i item left right) → low ≤ new.key → new.key < low + half (suc d) → look (suc d) low new.key (Fork i item left right) ≡ None → Law d low slot k left → Law d (low + half d) slot k right
    → look (suc d) low k (place d low slot i item new left right) ≡ cond (nat_eq k new.key) (Some new.room) (look (suc d) low k (Fork i item left right))
look_under d low slot i item new left right k s a b n l r =
    let out = absent (nat_eq new.key item.key) item.room _ n in
    let ne = test_differ new.key item.key out.0 in
    elim (cases_lt new.key (low + half d)) [
      | inl h ↦
          ap (look (suc d) low k) (cond_true _ _ _ (lt_true _ _ h))
          ∙ under_left (nat_eq k item.key) (nat_eq k new.key) (nat_lt k (low + half d)) (look d low k left) _ (look d (low + half d) k right) item.room new.room (λ e. eq_ne k new.key item.key ne e) (λ e. eq_lt k new.key (low + half d) h e)
          (l new a h (sym (cond_true _ _ _ (lt_true _ _ h)) ∙ out.1))
      | inr h ↦
          ap (look (suc d) low k) (cond_false _ _ _ (lt_false _ _ h))
          ∙ under_right (nat_eq k item.key) (nat_eq k new.key) (nat_lt k (low + half d)) (look d (low + half d) k right) _ (look d low k left) item.room new.room (λ e. eq_ne k new.key item.key ne e) (λ e. eq_ge k new.key (low + half d) h e)
          (r new h (upper_range d low new.key item.key a b s.0 s.1 ne h) (sym (cond_false _ _ _ (lt_false _ _ h)) ∙ out.1))
    ]

look_over : (d low slot i : ℕ) (item new : Item) (left right : Tree) (k : ℕ) → IsInOrder (suc d) low (Fork i item left right) → low ≤ new.key → new.key < low + half (suc d) → look (suc d) low new.key (Fork i item left right) ≡ None → Law d low slot k left → Law d (low + half d) slot k right
    → look (suc d) low k (place d low slot i new item left right) ≡ cond (nat_eq k new.key) (Some new.room) (look (suc d) low k (Fork i item left right))
look_over d low slot i item new left right k s a b n l r =
    let out = absent (nat_eq new.key item.key) item.room _ n in
    let ne = test_differ new.key item.key out.0 in
    elim (cases_lt item.key (low + half d)) [
      | inl h ↦
          ap (look (suc d) low k) (cond_true _ _ _ (lt_true _ _ h))
          ∙ over_left (nat_eq k item.key) (nat_eq k new.key) (nat_lt k (low + half d)) (look d low k left) _ (look d (low + half d) k right) item.room new.room (λ e. eq_lt k item.key (low + half d) h e)
          (l item s.0 h (sym (cond_true _ _ _ (lt_true _ _ h)) ∙ s.2))
      | inr h ↦
          ap (look (suc d) low k) (cond_false _ _ _ (lt_false _ _ h))
          ∙ over_right (nat_eq k item.key) (nat_eq k new.key) (nat_lt k (low + half d)) (look d (low + half d) k right) _ (look d low k left) item.room new.room (λ e. eq_ge k item.key (low + half d) h e)
          (r item h (upper_range d low item.key new.key s.0 s.1 a b (λ e. ne (sym e)) h) (sym (cond_false _ _ _ (lt_false _ _ h)) ∙ s.2))
    ]

-- under its key there is the room of the new item, and what was there under each other key
pub look_insert : (d low slot : ℕ) (tree : Tree) (k : ℕ) → IsInOrder d low tree → Law d low slot k tree
look_insert zero low slot tree k s new a b n = let x = half_none in absurd (omega arith)
look_insert (suc d) low slot Empty k s new a b n =
    let e : (cond (nat_lt k (low + half d)) (look d low k Empty) (look d (low + half d) k Empty)) ≡ None = elim (nat_lt k (low + half d)) as (λ t. cond t (look d low k Empty) (look d (low + half d) k Empty) ≡ None) [ true ↦ look_empty d low k | false ↦ look_empty d (low + half d) k ] in
    ap (cond (nat_eq k new.key) (Some new.room)) e
look_insert (suc d) low slot (Fork i item left right) k s new a b n =
    let l = look_insert d low slot left k s.5 in
    let r = look_insert d (low + half d) slot right k s.6 in
    elim (cases_lt item.room new.room) [
      | inl h ↦
          ap (λ (x : Item). look (suc d) low k (place d low slot i x (lower item new) left right)) (cond_true _ _ _ (lt_true _ _ h))
          ∙ (ap (λ (x : Item). look (suc d) low k (place d low slot i new x left right)) (cond_true _ _ _ (lt_true _ _ h)) ∙ look_over d low slot i item new left right k s a b n l r)
      | inr h ↦
          ap (λ (x : Item). look (suc d) low k (place d low slot i x (lower item new) left right)) (cond_false _ _ _ (lt_false _ _ h))
          ∙ (ap (λ (x : Item). look (suc d) low k (place d low slot i item x left right)) (cond_false _ _ _ (lt_false _ _ h)) ∙ look_under d low slot i item new left right k s a b n l r)
    ]
