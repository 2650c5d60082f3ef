-- What `remove` does to the rooms that are kept, and that it keeps a tree in order.
use Rattle.std.proofs.Common.{◌≡◌, ℕ, zero, suc, ◌+◌, Bool, true, false, cond, Option, Some, None, nat_eq, nat_lt, refl, ap, sym, ◌∙◌, subst, inl, inr}
use Rattle.std.proofs.lemmas.Bool.{cases_lt}
use Rattle.ms_gap_tree.specs.refinement.Tree.{Tree, Empty, Fork, half, look, pop, remove, IsBelow, IsInOrder}
use Rattle.ms_gap_tree.proofs.Inserted.{cond_true, cond_false, lt_true, lt_false}
use Rattle.ms_gap_tree.proofs.Laws.{eq_lt, eq_ge}
use Rattle.ms_gap_tree.proofs.Levels.{differ_test, test_differ}
use Rattle.ms_gap_tree.proofs.LowestLaw.{bool_cases, test_eq}
use Rattle.ms_gap_tree.proofs.PopLaws.{below_pop, look_pop, in_order_pop}
use Rattle.ms_gap_tree.proofs.OrderLaws.{below_more}

-- the root stays, and something goes from the lower half
from_left : (root gone less : Bool) (old kept other : Option ℕ) (r : ℕ) → (root ≡ true → gone ≡ false) → (gone ≡ true → less ≡ true) → kept ≡ cond gone None old → cond root (Some r) (cond less kept other) ≡ cond gone None (cond root (Some r) (cond less old other))
from_left true true less old kept other r f g h = let q : true ≡ false = f refl in absurd (cc)
from_left true false less old kept other r f g h = refl
from_left false true true old kept other r f g h = h
from_left false true false old kept other r f g h = let q : false ≡ true = g refl in absurd (cc)
from_left false false true old kept other r f g h = h
from_left false false false old kept other r f g h = refl

from_right : (root gone less : Bool) (old kept other : Option ℕ) (r : ℕ) → (root ≡ true → gone ≡ false) → (gone ≡ true → less ≡ false) → kept ≡ cond gone None old → cond root (Some r) (cond less other kept) ≡ cond gone None (cond root (Some r) (cond less other old))
from_right true true less old kept other r f g h = let q : true ≡ false = f refl in absurd (cc)
from_right true false less old kept other r f g h = refl
from_right false true false old kept other r f g h = h
from_right false true true old kept other r f g h = let q : true ≡ false = g refl in absurd (cc)
from_right false false false old kept other r f g h = h
from_right false false true old kept other r f g h = refl

none_still : (b : Bool) → cond {A = Option ℕ} b None None ≡ None
none_still true = refl
none_still false = refl

other_key : (k key top : ℕ) → nat_eq key top ≡ false → nat_eq k top ≡ true → nat_eq k key ≡ false
other_key k key top n e = differ_test k key (λ q. test_differ key top n (sym q ∙ test_eq k top e))

-- under the key there is nothing then, and under each other key what was there
pub look_remove : (d low key : ℕ) (tree : Tree) (k : ℕ) → IsInOrder d low tree → look d low k (remove d low key tree) ≡ cond (nat_eq k key) None (look d low k tree)
look_remove zero low key tree k s = sym (none_still (nat_eq k key))
look_remove (suc d) low key Empty k s = sym (none_still (nat_eq k key))
look_remove (suc d) low key (Fork i item left right) k s =
    let middle = low + half d in
    let on_left = Fork i item (remove d low key left) right in
    let on_right = Fork i item left (remove d middle key right) in
    elim (bool_cases (nat_eq key item.key)) [
      | inl e ↦
          ap (look (suc d) low k) (cond_true (nat_eq key item.key) (pop (Fork i item left right)) (cond (nat_lt key middle) on_left on_right) e)
          ∙ (look_pop (suc d) low (Fork i item left right) k s refl ∙ ap (λ (m : ℕ). cond (nat_eq k m) None (look (suc d) low k (Fork i item left right))) (sym (test_eq key item.key e)))
      | inr e ↦ elim (cases_lt key middle) [
        | inl h ↦
            ap (look (suc d) low k) (cond_false (nat_eq key item.key) (pop (Fork i item left right)) (cond (nat_lt key middle) on_left on_right) e ∙ cond_true (nat_lt key middle) on_left on_right (lt_true key middle h))
            ∙ from_left (nat_eq k item.key) (nat_eq k key) (nat_lt k middle) (look d low k left) (look d low k (remove d low key left)) (look d middle k right) item.room (other_key k key item.key e) (eq_lt k key middle h) (look_remove d low key left k s.5)
        | inr h ↦
            ap (look (suc d) low k) (cond_false (nat_eq key item.key) (pop (Fork i item left right)) (cond (nat_lt key middle) on_left on_right) e ∙ cond_false (nat_lt key middle) on_left on_right (lt_false key middle h))
            ∙ from_right (nat_eq k item.key) (nat_eq k key) (nat_lt k middle) (look d middle k right) (look d middle k (remove d middle key right)) (look d low k left) item.room (other_key k key item.key e) (eq_ge k key middle h) (look_remove d middle key right k s.6)
      ]
    ]

below_remove : (d low key : ℕ) (tree : Tree) (m : ℕ) → IsInOrder d low tree → IsBelow m tree → IsBelow m (remove d low key tree)
below_remove zero low key tree m s b = b
below_remove (suc d) low key Empty m s b = b
below_remove (suc d) low key (Fork i item left right) m s b =
    elim (nat_eq key item.key) as (λ t. IsBelow m (cond t (pop (Fork i item left right)) (cond (nat_lt key (low + half d)) (Fork i item (remove d low key left) right) (Fork i item left (remove d (low + half d) key right))))) [
      | true ↦ below_more (pop (Fork i item left right)) item.room m b (below_pop (suc d) low (Fork i item left right) s)
      | false ↦ elim (nat_lt key (low + half d)) as (λ t. IsBelow m (cond t (Fork i item (remove d low key left) right) (Fork i item left (remove d (low + half d) key right)))) [ true ↦ b | false ↦ b ]
    ]

drop_none : (b : Bool) (x : Option ℕ) → x ≡ None → cond b None x ≡ None
drop_none true x h = refl
drop_none false x h = h

sides : (less : Bool) (x y x' y' : Option ℕ) → cond less x y ≡ None → (x ≡ None → x' ≡ None) → (y ≡ None → y' ≡ None) → cond less x' y' ≡ None
sides true x y x' y' h f g = f h
sides false x y x' y' h f g = g h

gone_side : (d low key : ℕ) (left right left' right' : Tree) → cond (nat_lt key (low + half d)) (look d low key left) (look d (low + half d) key right) ≡ None → (look d low key left ≡ None → look d low key left' ≡ None) → (look d (low + half d) key right ≡ None → look d (low + half d) key right' ≡ None)
    → cond (nat_lt key (low + half d)) (look d low key left') (look d (low + half d) key right') ≡ None
gone_side d low key left right left' right' h f g = sides (nat_lt key (low + half d)) _ _ _ _ h f g

pub in_order_remove : (d low key : ℕ) (tree : Tree) → IsInOrder d low tree → IsInOrder d low (remove d low key tree)
in_order_remove zero low key tree s = s
in_order_remove (suc d) low key Empty s = s
in_order_remove (suc d) low key (Fork i item left right) s =
    let middle = low + half d in
    let on_left = Fork i item (remove d low key left) right in
    let on_right = Fork i item left (remove d middle key right) in
    elim (bool_cases (nat_eq key item.key)) [
      | inl e ↦ subst (IsInOrder (suc d) low) (sym (cond_true (nat_eq key item.key) (pop (Fork i item left right)) (cond (nat_lt key middle) on_left on_right) e)) (in_order_pop (suc d) low (Fork i item left right) s)
      | inr e ↦ elim (cases_lt key middle) [
        | inl h ↦
            let now = gone_side d low item.key left right (remove d low key left) right s.2 (λ q. look_remove d low key left item.key s.5 ∙ drop_none (nat_eq item.key key) (look d low item.key left) q) (λ q. q) in
            subst (IsInOrder (suc d) low) (sym (cond_false (nat_eq key item.key) (pop (Fork i item left right)) (cond (nat_lt key middle) on_left on_right) e ∙ cond_true (nat_lt key middle) on_left on_right (lt_true key middle h)))
            (s.0, s.1, now, below_remove d low key left item.room s.5 s.3, s.4, in_order_remove d low key left s.5, s.6)
        | inr h ↦
            let now = gone_side d low item.key left right left (remove d middle key right) s.2 (λ q. q) (λ q. look_remove d middle key right item.key s.6 ∙ drop_none (nat_eq item.key key) (look d middle item.key right) q) in
            subst (IsInOrder (suc d) low) (sym (cond_false (nat_eq key item.key) (pop (Fork i item left right)) (cond (nat_lt key middle) on_left on_right) e ∙ cond_false (nat_lt key middle) on_left on_right (lt_false key middle h)))
            (s.0, s.1, now, s.3, below_remove d middle key right item.room s.6 s.4, s.5, in_order_remove d middle key right s.6)
      ]
    ]
