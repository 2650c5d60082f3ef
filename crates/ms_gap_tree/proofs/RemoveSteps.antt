-- What the code of `remove` leaves is `remove` of the tree.
use Rattle.std.proofs.Common.{◌≡◌, ◌≢◌, ℕ, zero, suc, ◌+◌, ◌<◌, ◌≤◌, true, false, cond, List, Option, Some, set, nat_eq, nat_lt, length, ap, sym, ◌∙◌, subst}
use Rattle.ms_gap_tree.specs.refinement.Arena.{at, tree_of}
use Rattle.ms_gap_tree.specs.refinement.Tree.{Tree, Empty, Fork, half, has, pop, remove, IsApart, IsWithinArena}
use Rattle.ms_gap_tree.specs.declared.node.Link.{Link}
use Rattle.ms_gap_tree.specs.declared.node.Node.{Node}
use Rattle.ms_gap_tree.proofs.Levels.{differ_test, or_joined, other_slot}
use Rattle.ms_gap_tree.proofs.Frame.{rebuilt_left, rebuilt_right}
use Rattle.ms_gap_tree.proofs.Inserted.{cond_true, cond_false, contrary, linked, lt_false, lt_true}
use Rattle.ms_gap_tree.proofs.PopSteps.{has_pop}

pub has_remove : (d low key : ℕ) (tree : Tree) (j : ℕ) → has j tree ≡ false → has j (remove d low key tree) ≡ false
has_remove zero low key tree j h = h
has_remove (suc d) low key Empty j h = h
has_remove (suc d) low key (Fork i item left right) j h =
    let o = other_slot j i item left right h in
    let sides = cond (nat_lt key (low + half d)) (Fork i item (remove d low key left) right) (Fork i item left (remove d (low + half d) key right)) in
    elim (nat_eq key item.key) as (λ b. has j (cond b (pop (Fork i item left right)) sides) ≡ false) [
      | true ↦ has_pop (Fork i item left right) j h
      | false ↦ elim (nat_lt key (low + half d)) as (λ b. has j (cond b (Fork i item (remove d low key left) right) (Fork i item left (remove d (low + half d) key right))) ≡ false) [
        | true ↦ or_joined _ _ o.0 (or_joined _ _ (has_remove d low key left j o.1) o.2)
        | false ↦ or_joined _ _ o.0 (or_joined _ _ o.1 (has_remove d (low + half d) key right j o.2))
      ]
    ]

-- what is known of the parts of a tree
pub record Halves (nodes : List Node) (d i : ℕ) : Type 0 where
  pub here : i < length nodes
  pub within_left : IsWithinArena (length nodes) (tree_of nodes d (at nodes i).left)
  pub within_right : IsWithinArena (length nodes) (tree_of nodes d (at nodes i).right)
  pub apart_left : IsApart (tree_of nodes d (at nodes i).left)
  pub apart_right : IsApart (tree_of nodes d (at nodes i).right)

pub halves_of : (nodes : List Node) (level d : ℕ) (root : Link) (link : Option Link) → level ≡ suc d → link ≡ Some root → IsWithinArena (length nodes) (tree_of nodes level link) → IsApart (tree_of nodes level link) → Halves nodes d root.at
halves_of nodes level d root link e h within apart =
    let t = linked nodes level d root link e h in
    let w = subst (IsWithinArena (length nodes)) t within in
    let a = subst IsApart t apart in
    record { here = w.0; within_left = w.1; within_right = w.2; apart_left = a.3; apart_right = a.4 }

pub removed_left : (old new : List Node) (level d low key : ℕ) (root : Link) (link rest : Option Link) → level ≡ suc d → link ≡ Some root → key ≢ root.item.key → key < low + half d → IsApart (tree_of old level link) → root.at < length new
    → tree_of new d rest ≡ remove d low key (tree_of old d (at old root.at).left) → ((j : ℕ) → has j (tree_of old d (at old root.at).left) ≡ false → at new j ≡ at old j)
    → tree_of (set new root.at (record { left = rest; right = (at old root.at).right })) level (Some root) ≡ remove level low key (tree_of old level link)
removed_left old new level d low key root link rest e h n k apart l tree others =
    let i = root.at in
    let left = tree_of old d (at old i).left in
    let right = tree_of old d (at old i).right in
    let whole = linked old level d root link e h in
    let a = subst IsApart whole apart in
    let v : Node = record { left = rest; right = (at old i).right } in
    let keeps = λ (j : ℕ) (q : has j right ≡ true). others j (contrary (has j left) (has j right) (a.2 j) q) in
    let built = rebuilt_left old new d i root.item rest (at old i).right (remove d low key left) l tree (has_remove d low key left i a.0) a.1 keeps in
    let sides = cond (nat_lt key (low + half d)) (Fork i root.item (remove d low key left) right) (Fork i root.item left (remove d (low + half d) key right)) in
    let p : remove (suc d) low key (Fork i root.item left right) ≡ Fork i root.item (remove d low key left) right =
    cond_false (nat_eq key root.item.key) (pop (Fork i root.item left right)) sides (differ_test key root.item.key n)
    ∙ cond_true (nat_lt key (low + half d)) (Fork i root.item (remove d low key left) right) (Fork i root.item left (remove d (low + half d) key right)) (lt_true key (low + half d) k) in
    ap (λ (m : ℕ). tree_of (set new i v) m (Some root)) e ∙ (built ∙ (sym p ∙ (sym (ap (λ (m : ℕ). remove m low key (Fork i root.item left right)) e) ∙ sym (ap (remove level low key) whole))))

pub removed_right : (old new : List Node) (level d low key : ℕ) (root : Link) (link rest : Option Link) → level ≡ suc d → link ≡ Some root → key ≢ root.item.key → low + half d ≤ key → IsApart (tree_of old level link) → root.at < length new
    → tree_of new d rest ≡ remove d (low + half d) key (tree_of old d (at old root.at).right) → ((j : ℕ) → has j (tree_of old d (at old root.at).right) ≡ false → at new j ≡ at old j)
    → tree_of (set new root.at (record { left = (at old root.at).left; right = rest })) level (Some root) ≡ remove level low key (tree_of old level link)
removed_right old new level d low key root link rest e h n k apart l tree others =
    let i = root.at in
    let left = tree_of old d (at old i).left in
    let right = tree_of old d (at old i).right in
    let whole = linked old level d root link e h in
    let a = subst IsApart whole apart in
    let v : Node = record { left = (at old i).left; right = rest } in
    let keeps = λ (j : ℕ) (q : has j left ≡ true). others j (a.2 j q) in
    let built = rebuilt_right old new d i root.item (at old i).left rest (remove d (low + half d) key right) l tree (has_remove d (low + half d) key right i a.1) a.0 keeps in
    let sides = cond (nat_lt key (low + half d)) (Fork i root.item (remove d low key left) right) (Fork i root.item left (remove d (low + half d) key right)) in
    let p : remove (suc d) low key (Fork i root.item left right) ≡ Fork i root.item left (remove d (low + half d) key right) =
    cond_false (nat_eq key root.item.key) (pop (Fork i root.item left right)) sides (differ_test key root.item.key n)
    ∙ cond_false (nat_lt key (low + half d)) (Fork i root.item (remove d low key left) right) (Fork i root.item left (remove d (low + half d) key right)) (lt_false key (low + half d) k) in
    ap (λ (m : ℕ). tree_of (set new i v) m (Some root)) e ∙ (built ∙ (sym p ∙ (sym (ap (λ (m : ℕ). remove m low key (Fork i root.item left right)) e) ∙ sym (ap (remove level low key) whole))))
