-- What a write to the arena leaves of the trees in it.
use Rattle.std.proofs.Common.{◌≡◌, ◌≢◌, ℕ, zero, suc, ◌+◌, ◌<◌, true, false, cond, List, Option, Some, None, set, nat_eq, nat_lt, refl, length, ap, sym, ◌∙◌, ◌||◌, get_or-set_same, get_or-set_other}
use Rattle.ms_gap_tree.specs.refinement.Arena.{at, tree_of, blank}
use Rattle.ms_gap_tree.specs.refinement.Tree.{Tree, Empty, Fork, half, insert, upper, lower, has}
use Rattle.ms_gap_tree.specs.declared.node.Item.{Item}
use Rattle.ms_gap_tree.specs.declared.node.Link.{Link}
use Rattle.ms_gap_tree.specs.declared.node.Node.{Node}
use Rattle.ms_gap_tree.proofs.Levels.{or_joined, or_left, or_right, other_slot, same_test, differ_test}

-- arenas that agree at the slots of a tree hold the same one
pub framed : (d : ℕ) (old new : List Node) (link : Option Link) → ((j : ℕ) → has j (tree_of old d link) ≡ true → at new j ≡ at old j) → tree_of new d link ≡ tree_of old d link
framed zero old new None f = refl
framed zero old new (Some root) f = refl
framed (suc d) old new None f = refl
framed (suc d) old new (Some root) f =
    let i = root.at in
    let left = tree_of old d (at old i).left in
    let right = tree_of old d (at old i).right in
    let s : at new i ≡ at old i = f i (or_left (nat_eq i i) (has i left || has i right) (same_test i)) in
    let l = framed d old new (at old i).left (λ j k. f j (or_right (nat_eq j i) (has j left || has j right) (or_left (has j left) (has j right) k))) in
    let r = framed d old new (at old i).right (λ j k. f j (or_right (nat_eq j i) (has j left || has j right) (or_right (has j left) (has j right) k))) in
    ap (λ (n : Node). Fork i root.item (tree_of new d n.left) (tree_of new d n.right)) s ∙ (ap (λ (t : Tree). Fork i root.item t (tree_of new d (at old i).right)) l ∙ ap (λ (t : Tree). Fork i root.item left t) r)

-- a write elsewhere
pub framed_set : (d : ℕ) (nodes : List Node) (link : Option Link) (i : ℕ) (v : Node) → has i (tree_of nodes d link) ≡ false → tree_of (set nodes i v) d link ≡ tree_of nodes d link
framed_set d nodes link i v h = framed d nodes (set nodes i v) link (λ j k. get_or-set_other nodes i j v blank (λ e. let q = sym k ∙ (ap (λ (x : ℕ). has x (tree_of nodes d link)) e ∙ h) in absurd (cc)))

-- the slots of the tree with an item more
pub has_insert : (d low slot : ℕ) (new : Item) (tree : Tree) (j : ℕ) → has j tree ≡ false → j ≢ slot → has j (insert d low slot new tree) ≡ false
has_insert zero low slot new tree j h n = h
has_insert (suc d) low slot new Empty j h n = or_joined (nat_eq j slot) false (differ_test j slot n) refl
has_insert (suc d) low slot new (Fork i item left right) j h n =
    let o = other_slot j i item left right h in
    elim (nat_lt (lower item new).key (low + half d)) as (λ b. has j (cond b (Fork i (upper item new) (insert d low slot (lower item new) left) right) (Fork i (upper item new) left (insert d (low + half d) slot (lower item new) right))) ≡ false) [
      | true ↦ or_joined _ _ o.0 (or_joined _ _ (has_insert d low slot (lower item new) left j o.1 n) o.2)
      | false ↦ or_joined _ _ o.0 (or_joined _ _ o.1 (has_insert d (low + half d) slot (lower item new) right j o.2 n))
    ]

-- a node written over another, whose lower half was changed
pub rebuilt_left : (old new : List Node) (d i : ℕ) (item : Item) (left right : Option Link) (tree : Tree) → i < length new → tree_of new d left ≡ tree → has i tree ≡ false → has i (tree_of old d right) ≡ false → ((j : ℕ) → has j (tree_of old d right) ≡ true → at new j ≡ at old j) → tree_of (set new i (record { left = left; right = right })) (suc d) (Some (record { at = i; item = item })) ≡ Fork i item tree (tree_of old d right)
rebuilt_left old new d i item left right tree l e h k f =
    let v : Node = record { left = left; right = right } in
    let s : at (set new i v) i ≡ v = get_or-set_same new i v blank l in
    let w = framed d old new right f in
    let a = framed_set d new left i v (ap (has i) e ∙ h) ∙ e in
    let b = framed_set d new right i v (ap (has i) w ∙ k) ∙ w in
    ap (λ (n : Node). Fork i item (tree_of (set new i v) d n.left) (tree_of (set new i v) d n.right)) s ∙ (ap (λ (t : Tree). Fork i item t (tree_of (set new i v) d right)) a ∙ ap (λ (t : Tree). Fork i item tree t) b)

-- the same of the upper half
pub rebuilt_right : (old new : List Node) (d i : ℕ) (item : Item) (left right : Option Link) (tree : Tree) → i < length new → tree_of new d right ≡ tree → has i tree ≡ false → has i (tree_of old d left) ≡ false → ((j : ℕ) → has j (tree_of old d left) ≡ true → at new j ≡ at old j) → tree_of (set new i (record { left = left; right = right })) (suc d) (Some (record { at = i; item = item })) ≡ Fork i item (tree_of old d left) tree
rebuilt_right old new d i item left right tree l e h k f =
    let v : Node = record { left = left; right = right } in
    let s : at (set new i v) i ≡ v = get_or-set_same new i v blank l in
    let w = framed d old new left f in
    let a = framed_set d new right i v (ap (has i) e ∙ h) ∙ e in
    let b = framed_set d new left i v (ap (has i) w ∙ k) ∙ w in
    ap (λ (n : Node). Fork i item (tree_of (set new i v) d n.left) (tree_of (set new i v) d n.right)) s ∙ (ap (λ (t : Tree). Fork i item t (tree_of (set new i v) d right)) b ∙ ap (λ (t : Tree). Fork i item (tree_of old d left) t) a)
