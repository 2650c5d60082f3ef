-- What keeps a tree in order.
use Rattle.std.proofs.Common.{◌≡◌, ◌≢◌, ℕ, zero, suc, ◌+◌, ◌<◌, ◌≤◌, true, false, cond, None, nat_eq, nat_lt, arith, sym, ◌∙◌, subst, inl, inr}
use Rattle.std.proofs.lemmas.Bool.{cases_lt}
use Rattle.ms_gap_tree.specs.refinement.Tree.{Tree, Empty, Fork, half, insert, look, upper, lower, IsBelow, IsInOrder}
use Rattle.ms_gap_tree.specs.declared.node.Item.{Item}
use Rattle.ms_gap_tree.proofs.Inserted.{cond_true, cond_false, lt_true, lt_false}
use Rattle.ms_gap_tree.proofs.Laws.{absent, look_insert, place, upper_range}
use Rattle.ms_gap_tree.proofs.Levels.{differ_test, look_empty, test_differ}

pub below_more : (tree : Tree) (m n : ℕ) → m ≤ n → IsBelow m tree → IsBelow n tree
below_more Empty m n h b = b
below_more (Fork i item left right) m n h b = omega arith

below_insert : (d low slot : ℕ) (new : Item) (tree : Tree) (m : ℕ) → new.room ≤ m → IsBelow m tree → IsBelow m (insert d low slot new tree)
below_insert zero low slot new tree m h b = b
below_insert (suc d) low slot new Empty m h b = h
below_insert (suc d) low slot new (Fork i item left right) m h b =
    let r : (upper item new).room ≤ m = elim (nat_lt item.room new.room) as (λ t. (cond t new item).room ≤ m) [ true ↦ h | false ↦ b ] in
    elim (nat_lt (lower item new).key (low + half d)) as (λ t. IsBelow m (cond t (Fork i (upper item new) (insert d low slot (lower item new) left) right) (Fork i (upper item new) left (insert d (low + half d) slot (lower item new) right)))) [ true ↦ r | false ↦ r ]

-- on the side of a key nothing is kept under it
abbrev IsGone : ℕ → ℕ → ℕ → Tree → Tree → Type 0
IsGone d low key left right = cond (nat_lt key (low + half d)) (look d low key left) (look d (low + half d) key right) ≡ None

in_order_place : (d low slot i : ℕ) (top rest : Item) (left right : Tree) → low ≤ top.key → top.key < low + half (suc d) → low ≤ rest.key → rest.key < low + half (suc d) → top.key ≢ rest.key → rest.room ≤ top.room → IsGone d low top.key left right → IsGone d low rest.key left right
    → IsBelow top.room left → IsBelow top.room right → IsInOrder d low left → IsInOrder d (low + half d) right
    → ((x : Item) → low ≤ x.key → x.key < low + half d → look d low x.key left ≡ None → IsInOrder d low (insert d low slot x left))
    → ((x : Item) → low + half d ≤ x.key → x.key < (low + half d) + half d → look d (low + half d) x.key right ≡ None → IsInOrder d (low + half d) (insert d (low + half d) slot x right))
    → IsInOrder (suc d) low (place d low slot i top rest left right)
in_order_place d low slot i top rest left right a b a' b' ne r g g' bl br sl sr il ir =
    let middle = low + half d in
    elim (cases_lt rest.key middle) [
      | inl h ↦
          let gone : look d low rest.key left ≡ None = sym (cond_true _ _ _ (lt_true _ _ h)) ∙ g' in
          let now : IsGone d low top.key (insert d low slot rest left) right =
          elim (cases_lt top.key middle) [
            | inl k ↦ cond_true _ _ _ (lt_true _ _ k) ∙ (look_insert d low slot left top.key sl rest a' h gone ∙ (cond_false _ _ _ (differ_test top.key rest.key ne) ∙ (sym (cond_true _ _ _ (lt_true _ _ k)) ∙ g)))
            | inr k ↦ cond_false _ _ _ (lt_false _ _ k) ∙ (sym (cond_false _ _ _ (lt_false _ _ k)) ∙ g)
          ] in
          subst (IsInOrder (suc d) low) (sym (cond_true (nat_lt rest.key middle) (Fork i top (insert d low slot rest left) right) (Fork i top left (insert d middle slot rest right)) (lt_true _ _ h)))
          (a, b, now, below_insert d low slot rest left top.room r bl, br, il rest a' h gone, sr)
      | inr h ↦
          let gone : look d middle rest.key right ≡ None = sym (cond_false _ _ _ (lt_false _ _ h)) ∙ g' in
          let inside = upper_range d low rest.key top.key a' b' a b (λ e. ne (sym e)) h in
          let now : IsGone d low top.key left (insert d middle slot rest right) =
          elim (cases_lt top.key middle) [
            | inl k ↦ cond_true _ _ _ (lt_true _ _ k) ∙ (sym (cond_true _ _ _ (lt_true _ _ k)) ∙ g)
            | inr k ↦ cond_false _ _ _ (lt_false _ _ k) ∙ (look_insert d middle slot right top.key sr rest h inside gone ∙ (cond_false _ _ _ (differ_test top.key rest.key ne) ∙ (sym (cond_false _ _ _ (lt_false _ _ k)) ∙ g)))
          ] in
          subst (IsInOrder (suc d) low) (sym (cond_false (nat_lt rest.key middle) (Fork i top (insert d low slot rest left) right) (Fork i top left (insert d middle slot rest right)) (lt_false _ _ h)))
          (a, b, now, bl, below_insert d middle slot rest right top.room r br, sl, ir rest h inside gone)
    ]

pub in_order_empty : (d low : ℕ) → IsInOrder d low Empty
in_order_empty zero low = tt
in_order_empty (suc d) low = tt

pub below_empty : (m : ℕ) → IsBelow m Empty
below_empty m = tt

-- a tree with an item under a new key is in order
pub in_order_insert : (d low slot : ℕ) (tree : Tree) → IsInOrder d low tree → (new : Item) → low ≤ new.key → new.key < low + half d → look d low new.key tree ≡ None → IsInOrder d low (insert d low slot new tree)
in_order_insert zero low slot tree s new a b n = s
in_order_insert (suc d) low slot Empty s new a b n = (
  a,
  b,
  elim (nat_lt new.key (low + half d)) as (λ t. cond t (look d low new.key Empty) (look d (low + half d) new.key Empty) ≡ None) [ true ↦ look_empty d low new.key | false ↦ look_empty d (low + half d) new.key ],
  below_empty new.room,
  below_empty new.room,
  in_order_empty d low,
  in_order_empty d (low + half d),
)
in_order_insert (suc d) low slot (Fork i item left right) s new a b n =
    let out = absent (nat_eq new.key item.key) item.room _ n in
    let ne = test_differ new.key item.key out.0 in
    let l = in_order_insert d low slot left s.5 in
    let r = in_order_insert d (low + half d) slot right s.6 in
    elim (cases_lt item.room new.room) [
      | inl h ↦
          let up = λ (t : Tree) (k : IsBelow item.room t). below_more t item.room new.room (omega arith) k in
          let p = in_order_place d low slot i new item left right a b s.0 s.1 ne (omega arith) out.1 s.2 (up left s.3) (up right s.4) s.5 s.6 l r in
          subst (λ (x : Item). IsInOrder (suc d) low (place d low slot i x (lower item new) left right)) (sym (cond_true (nat_lt item.room new.room) new item (lt_true _ _ h)))
          (subst (λ (x : Item). IsInOrder (suc d) low (place d low slot i new x left right)) (sym (cond_true (nat_lt item.room new.room) item new (lt_true _ _ h))) p)
      | inr h ↦
          let p = in_order_place d low slot i item new left right s.0 s.1 a b (λ e. ne (sym e)) h s.2 out.1 s.3 s.4 s.5 s.6 l r in
          subst (λ (x : Item). IsInOrder (suc d) low (place d low slot i x (lower item new) left right)) (sym (cond_false (nat_lt item.room new.room) new item (lt_false _ _ h)))
          (subst (λ (x : Item). IsInOrder (suc d) low (place d low slot i item x left right)) (sym (cond_false (nat_lt item.room new.room) item new (lt_false _ _ h))) p)
    ]
