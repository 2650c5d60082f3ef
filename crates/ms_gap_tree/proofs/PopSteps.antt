-- What the code of `pop` leaves is `pop` of the tree.
use Rattle.std.proofs.Common.{◌≡◌, ℕ, zero, suc, ◌<◌, true, false, cond, List, Option, Some, None, set, refl, length, ap, sym, ◌∙◌, subst, get_or-set_other}
use Rattle.ms_gap_tree.specs.refinement.Arena.{at, tree_of, blank}
use Rattle.ms_gap_tree.specs.refinement.Tree.{Tree, Empty, Fork, first, freed, has, is_empty, link_first, pop, root, IsApart}
use Rattle.ms_gap_tree.specs.declared.node.Item.{Item}
use Rattle.ms_gap_tree.specs.declared.node.Link.{Link}
use Rattle.ms_gap_tree.specs.declared.node.Node.{Node}
use Rattle.ms_gap_tree.proofs.Levels.{other_slot, test_differ, tree_none}
use Rattle.ms_gap_tree.proofs.Frame.{rebuilt_left, rebuilt_right}
use Rattle.ms_gap_tree.proofs.GainLaws.{pop_loses}
use Rattle.ms_gap_tree.proofs.Gains.{absent_loses}
use Rattle.ms_gap_tree.proofs.Inserted.{cond_true, cond_false, contrary, linked}

pub first_is : (nodes : List Node) (d : ℕ) (left right : Option Link) → link_first left right ≡ first (tree_of nodes d left) (tree_of nodes d right)
first_is nodes zero None right = refl
first_is nodes zero (Some x) None = refl
first_is nodes zero (Some x) (Some y) = refl
first_is nodes (suc d) None right = refl
first_is nodes (suc d) (Some x) None = refl
first_is nodes (suc d) (Some x) (Some y) = refl

pub root_is : (nodes : List Node) (d : ℕ) (child : Link) → root (tree_of nodes d (Some child)) ≡ child.item
root_is nodes zero child = refl
root_is nodes (suc d) child = refl

some_is : (nodes : List Node) (d : ℕ) (child : Link) → is_empty (tree_of nodes d (Some child)) ≡ false
some_is nodes zero child = refl
some_is nodes (suc d) child = refl

none_is : (nodes : List Node) (d : ℕ) → is_empty (tree_of nodes d None) ≡ true
none_is nodes zero = refl
none_is nodes (suc d) = refl

pub has_pop : (tree : Tree) (j : ℕ) → has j tree ≡ false → has j (pop tree) ≡ false
has_pop Empty j h = h
has_pop (Fork i item left right) j h = absent_loses _ _ _ (pop_loses (Fork i item left right) refl) j h

pub popped_left : (old new : List Node) (level d : ℕ) (top child : Link) (rest : Option Link) → level ≡ suc d → (at old top.at).left ≡ Some child → link_first (at old top.at).left (at old top.at).right ≡ true → IsApart (tree_of old level (Some top)) → top.at < length new
    → tree_of new d rest ≡ pop (tree_of old d (Some child)) → ((j : ℕ) → has j (tree_of old d (Some child)) ≡ false → at new j ≡ at old j)
    → tree_of (set new top.at (record { left = rest; right = (at old top.at).right })) level (Some (record { at = top.at; item = child.item })) ≡ pop (tree_of old level (Some top))
popped_left old new level d top child rest e c f apart l tree others =
    let i = top.at in
    let left = tree_of old d (at old i).left in
    let right = tree_of old d (at old i).right in
    let whole = linked old level d top (Some top) e refl in
    let a = subst IsApart whole apart in
    let below : tree_of old d (Some child) ≡ left = sym (ap (tree_of old d) c) in
    let keeps = λ (j : ℕ) (q : has j right ≡ true). others j (ap (has j) below ∙ contrary (has j left) (has j right) (a.2 j) q) in
    let built = rebuilt_left old new d i child.item rest (at old i).right (pop left) l (tree ∙ ap pop below) (has_pop left i a.0) a.1 keeps in
    let v : Node = record { left = rest; right = (at old i).right } in
    let p : pop (Fork i top.item left right) ≡ Fork i (root left) (pop left) right = cond_true (first left right) (Fork i (root left) (pop left) right) (cond (is_empty right) Empty (Fork i (root right) left (pop right))) (sym (first_is old d (at old i).left (at old i).right) ∙ f) in
    let r : root left ≡ child.item = sym (ap root below) ∙ root_is old d child in
    ap (λ (n : ℕ). tree_of (set new i v) n (Some (record { at = i; item = child.item }))) e
    ∙ (built ∙ (sym (ap (λ (x : Item). Fork i x (pop left) right) r) ∙ (sym p ∙ sym (ap pop whole))))

pub popped_right : (old new : List Node) (level d : ℕ) (top child : Link) (rest : Option Link) → level ≡ suc d → (at old top.at).right ≡ Some child → link_first (at old top.at).left (at old top.at).right ≡ false → IsApart (tree_of old level (Some top)) → top.at < length new
    → tree_of new d rest ≡ pop (tree_of old d (Some child)) → ((j : ℕ) → has j (tree_of old d (Some child)) ≡ false → at new j ≡ at old j)
    → tree_of (set new top.at (record { left = (at old top.at).left; right = rest })) level (Some (record { at = top.at; item = child.item })) ≡ pop (tree_of old level (Some top))
popped_right old new level d top child rest e c f apart l tree others =
    let i = top.at in
    let left = tree_of old d (at old i).left in
    let right = tree_of old d (at old i).right in
    let whole = linked old level d top (Some top) e refl in
    let a = subst IsApart whole apart in
    let below : tree_of old d (Some child) ≡ right = sym (ap (tree_of old d) c) in
    let keeps = λ (j : ℕ) (q : has j left ≡ true). others j (ap (has j) below ∙ a.2 j q) in
    let built = rebuilt_right old new d i child.item (at old i).left rest (pop right) l (tree ∙ ap pop below) (has_pop right i a.1) a.0 keeps in
    let v : Node = record { left = (at old i).left; right = rest } in
    let s : is_empty right ≡ false = sym (ap is_empty below) ∙ some_is old d child in
    let p : pop (Fork i top.item left right) ≡ Fork i (root right) left (pop right) =
    cond_false (first left right) (Fork i (root left) (pop left) right) (cond (is_empty right) Empty (Fork i (root right) left (pop right))) (sym (first_is old d (at old i).left (at old i).right) ∙ f)
    ∙ cond_false (is_empty right) Empty (Fork i (root right) left (pop right)) s in
    let r : root right ≡ child.item = sym (ap root below) ∙ root_is old d child in
    ap (λ (n : ℕ). tree_of (set new i v) n (Some (record { at = i; item = child.item }))) e
    ∙ (built ∙ (sym (ap (λ (x : Item). Fork i x left (pop right)) r) ∙ (sym p ∙ sym (ap pop whole))))

pub popped_last : (old : List Node) (level d : ℕ) (top : Link) → level ≡ suc d → (at old top.at).right ≡ None → link_first (at old top.at).left (at old top.at).right ≡ false → (tree_of old level None ≡ pop (tree_of old level (Some top))) × (top.at ≡ freed (tree_of old level (Some top)))
popped_last old level d top e c f =
    let i = top.at in
    let left = tree_of old d (at old i).left in
    let right = tree_of old d (at old i).right in
    let whole = linked old level d top (Some top) e refl in
    let n = sym (first_is old d (at old i).left (at old i).right) ∙ f in
    let s : is_empty right ≡ true = ap (λ (x : Option Link). is_empty (tree_of old d x)) c ∙ none_is old d in (
      tree_none old level ∙ (sym (cond_true (is_empty right) Empty (Fork i (root right) left (pop right)) s) ∙ (sym (cond_false (first left right) (Fork i (root left) (pop left) right) (cond (is_empty right) Empty (Fork i (root right) left (pop right))) n) ∙ sym (ap pop whole))),
      sym (cond_true (is_empty right) i (freed right) s) ∙ (sym (cond_false (first left right) (freed left) (cond (is_empty right) i (freed right)) n) ∙ sym (ap freed whole)),
    )

pub freed_left : (old : List Node) (level d : ℕ) (top child : Link) (slot : ℕ) → level ≡ suc d → (at old top.at).left ≡ Some child → link_first (at old top.at).left (at old top.at).right ≡ true → slot ≡ freed (tree_of old d (Some child)) → slot ≡ freed (tree_of old level (Some top))
freed_left old level d top child slot e c f s =
    let i = top.at in
    let left = tree_of old d (at old i).left in
    let right = tree_of old d (at old i).right in
    s ∙ (ap (λ (x : Option Link). freed (tree_of old d x)) (sym c) ∙ (sym (cond_true (first left right) (freed left) (cond (is_empty right) i (freed right)) (sym (first_is old d (at old i).left (at old i).right) ∙ f)) ∙ sym (ap freed (linked old level d top (Some top) e refl))))

pub freed_right : (old : List Node) (level d : ℕ) (top child : Link) (slot : ℕ) → level ≡ suc d → (at old top.at).right ≡ Some child → link_first (at old top.at).left (at old top.at).right ≡ false → slot ≡ freed (tree_of old d (Some child)) → slot ≡ freed (tree_of old level (Some top))
freed_right old level d top child slot e c f s =
    let i = top.at in
    let left = tree_of old d (at old i).left in
    let right = tree_of old d (at old i).right in
    let some : is_empty right ≡ false = ap (λ (x : Option Link). is_empty (tree_of old d x)) c ∙ some_is old d child in
    s ∙ (ap (λ (x : Option Link). freed (tree_of old d x)) (sym c) ∙ (sym (cond_false (is_empty right) i (freed right) some) ∙ (sym (cond_false (first left right) (freed left) (cond (is_empty right) i (freed right)) (sym (first_is old d (at old i).left (at old i).right) ∙ f)) ∙ sym (ap freed (linked old level d top (Some top) e refl)))))

-- other slots of the arena
pub popped_others : (old new : List Node) (level d : ℕ) (top : Link) (part : Tree) (v : Node) → level ≡ suc d → ((j : ℕ) → has j (tree_of old d (at old top.at).left) ≡ false → has j (tree_of old d (at old top.at).right) ≡ false → has j part ≡ false) → ((j : ℕ) → has j part ≡ false → at new j ≡ at old j)
    → (j : ℕ) → has j (tree_of old level (Some top)) ≡ false → at (set new top.at v) j ≡ at old j
popped_others old new level d top part v e f others j q =
    let o = other_slot j top.at top.item (tree_of old d (at old top.at).left) (tree_of old d (at old top.at).right) (sym (ap (has j) (linked old level d top (Some top) e refl)) ∙ q) in
    get_or-set_other new top.at j v blank (test_differ j top.at o.0) ∙ others j (f j o.1 o.2)
