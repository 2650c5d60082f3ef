-- One level of each definition.
use Rattle.std.proofs.Common.{◌≡◌, ℕ, zero, suc, ◌+◌, ◌-◌, ◌*◌, ◌%◌, ◌^◌, ◌<◌, ◌≤◌, Bool, true, false, cond, List, Option, Some, None, nat_eq, nat_lt, refl, arith, ◌||◌, ◌≢◌, eq-eqb}
use Rattle.std.proofs.lemmas.Bool.Decides.{nat_tests}
use Rattle.std.proofs.Math.Pow.{pow-lt}
use Rattle.std.proofs.Math.Nat.{two-pow-succ}
use Rattle.ms_gap_tree.specs.refinement.Arena.{at, tree_of}
use Rattle.ms_gap_tree.specs.refinement.Tree.{Tree, Empty, Fork, half, insert, look, upper, lower, has}
use Rattle.ms_gap_tree.specs.declared.node.Item.{Item}
use Rattle.ms_gap_tree.specs.declared.node.Link.{Link}
use Rattle.ms_gap_tree.specs.declared.node.Node.{Node}

pub tree_none : (nodes : List Node) (level : ℕ) → tree_of nodes level None ≡ Empty
tree_none nodes zero = refl
tree_none nodes (suc d) = refl

pub tree_some : (nodes : List Node) (level : ℕ) (root : Link) → 0 < level → tree_of nodes level (Some root) ≡ Fork root.at root.item (tree_of nodes (level - 1) (at nodes root.at).left) (tree_of nodes (level - 1) (at nodes root.at).right)
tree_some nodes zero root h = absurd (omega arith)
tree_some nodes (suc d) root h = let e : suc d - 1 ≡ d = omega arith in rw e refl

pub look_empty : (level low key : ℕ) → look level low key Empty ≡ None
look_empty zero low key = refl
look_empty (suc d) low key = refl

pub look_fork : (level low key i : ℕ) (item : Item) (left right : Tree) → 0 < level → look level low key (Fork i item left right) ≡ cond (nat_eq key item.key) (Some item.room) (cond (nat_lt key (low + half (level - 1))) (look (level - 1) low key left) (look (level - 1) (low + half (level - 1)) key right))
look_fork zero low key i item left right h = absurd (omega arith)
look_fork (suc d) low key i item left right h = let e : suc d - 1 ≡ d = omega arith in rw e refl

pub insert_empty : (level low slot : ℕ) (new : Item) → 0 < level → insert level low slot new Empty ≡ Fork slot new Empty Empty
insert_empty zero low slot new h = absurd (omega arith)
insert_empty (suc d) low slot new h = refl

pub insert_fork : (level low slot : ℕ) (new : Item) (i : ℕ) (item : Item) (left right : Tree) → 0 < level → insert level low slot new (Fork i item left right) ≡
    cond (nat_lt (lower item new).key (low + half (level - 1)))
    (Fork i (upper item new) (insert (level - 1) low slot (lower item new) left) right)
    (Fork i (upper item new) left (insert (level - 1) (low + half (level - 1)) slot (lower item new) right))
insert_fork zero low slot new i item left right h = absurd (omega arith)
insert_fork (suc d) low slot new i item left right h = let e : suc d - 1 ≡ d = omega arith in rw e refl

-- a half and the range of one level less are no more than the whole
pub halves : (level : ℕ) → 0 < level → half (level - 1) + 2 ^ (level - 1) ≤ 2 ^ level
unfolding half
halves zero h = absurd (omega arith)
halves (suc d) h = let e : suc d - 1 ≡ d = omega arith in rw e (let s : 2 ^ suc d ≡ 2 ^ d + 2 ^ d = two-pow-succ d in omega arith)

-- a power that fits 64 bits is itself
pub half_least : (level : ℕ) → level ≡ 0 → half level ≡ 0
unfolding half
half_least level e = rw e refl

pub fitting : (level : ℕ) → 0 < level → level ≤ 64 → 1 * 2 ^ (level - 1) % 18446744073709551616 ≡ half level
unfolding half
fitting zero h l = absurd (omega arith)
fitting (suc d) h l =
    let e : suc d - 1 ≡ d = omega arith in
    let near : d < 64 = omega arith in
    let b : 2 ^ d < 2 ^ 64 = pow-lt near in
    let s : 2 ^ suc d ≡ 2 ^ d + 2 ^ d = two-pow-succ d in
    let q : 1 * 2 ^ d % 18446744073709551616 ≡ 2 ^ d = omega arith in
    rw e (omega arith)

-- the tree from a link to a node on
pub tree_link : (nodes : List Node) (level : ℕ) (root : Link) (link : Option Link) → link ≡ Some root → 0 < level → tree_of nodes level link ≡ Fork root.at root.item (tree_of nodes (level - 1) (at nodes root.at).left) (tree_of nodes (level - 1) (at nodes root.at).right)
tree_link nodes level root link e h = rw e (tree_some nodes level root h)

pub or_false : (a b : Bool) → (a || b) ≡ false → (a ≡ false) × (b ≡ false)
or_false true b h = absurd (cc)
or_false false b h = (refl, h)

pub or_joined : (a b : Bool) → a ≡ false → b ≡ false → (a || b) ≡ false
or_joined true b h k = h
or_joined false b h k = k

-- a slot that the tree does not have
pub other_slot : (j i : ℕ) (item : Item) (left right : Tree) → has j (Fork i item left right) ≡ false → (nat_eq j i ≡ false) × (has j left ≡ false) × (has j right ≡ false)
other_slot j i item left right h =
    let a = or_false (nat_eq j i) (has j left || has j right) h in
    let b = or_false (has j left) (has j right) a.1 in
    (a.0, b.0, b.1)

pub or_left : (a b : Bool) → a ≡ true → (a || b) ≡ true
or_left true b h = refl
or_left false b h = absurd (cc)

pub or_right : (a b : Bool) → b ≡ true → (a || b) ≡ true
or_right true b h = refl
or_right false b h = h

pub same_test : (i : ℕ) → nat_eq i i ≡ true
same_test i = eq-eqb i i refl

pub differ_test : (j i : ℕ) → j ≢ i → nat_eq j i ≡ false
differ_test j i n = grind (arith, nat_tests)

pub test_differ : (j i : ℕ) → nat_eq j i ≡ false → j ≢ i
test_differ j i h e = grind (arith, nat_tests)
