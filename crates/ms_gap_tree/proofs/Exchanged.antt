-- A tree with another item at its root.
use Rattle.std.proofs.Common.{◌≡◌, ℕ, zero, suc, ◌+◌, ◌<◌, ◌≤◌, Bool, true, false, cond, ◌&&◌, List, length, Option, Some, None, IsSome, nat_eq, refl, arith, ap, sym, ◌∙◌, subst}
use Rattle.ms_gap_tree.specs.refinement.Arena.{at, tree_of}
use Rattle.ms_gap_tree.specs.refinement.Rooms.{Arena, IsHeld, IsPool, room_at, size_of, tree}
use Rattle.ms_gap_tree.specs.refinement.Tree.{Tree, Empty, Fork, exchange, half, has, is_below, link_below, look, size, yields, IsApart, IsBelow, IsInOrder, IsWithinArena}
use Rattle.ms_gap_tree.specs.declared.node.Item.{Item}
use Rattle.ms_gap_tree.specs.declared.node.Link.{Link}
use Rattle.ms_gap_tree.specs.declared.node.Node.{Node}
use Rattle.ms_gap_tree.proofs.Laws.{absent}
use Rattle.ms_gap_tree.proofs.Levels.{same_test}
use Rattle.ms_gap_tree.proofs.LowestLaw.{in_range, test_eq, test_le}
use Rattle.ms_gap_tree.proofs.Pool.{some_is}
use Rattle.ms_gap_tree.proofs.PopLaws.{gone_at}

-- ---- the test

below_link : (nodes : List Node) (d room : ℕ) (link : Option Link) → link_below room link ≡ is_below room (tree_of nodes d link)
below_link nodes zero room None = refl
below_link nodes zero room (Some root) = refl
below_link nodes (suc d) room None = refl
below_link nodes (suc d) room (Some root) = refl

both : (a b : Bool) → (a && b) ≡ true → (a ≡ true) × (b ≡ true)
both true b h = (refl, h)
both false b h = absurd (cc)

below : (room : ℕ) (tree : Tree) → is_below room tree ≡ true → IsBelow room tree
below room Empty h = tt
below room (Fork i item left right) h = test_le item.room room h

yields_is : (nodes : List Node) (level d key room : ℕ) (root : Link) (link : Option Link) → level ≡ suc d → link ≡ Some root
    → yields level key room (tree_of nodes level link) ≡ (nat_eq root.item.key key && (link_below room (at nodes root.at).left && link_below room (at nodes root.at).right))
yields_is nodes level d key room root link e h =
    rw (e, h, below_link nodes d room (at nodes root.at).left, below_link nodes d room (at nodes root.at).right) refl

no_second : (a b c : Bool) → b ≡ false → (a && (b && c)) ≡ false
no_second true b c h = rw h refl
no_second false b c h = refl

no_third : (a b c : Bool) → c ≡ false → (a && (b && c)) ≡ false
no_third true true c h = h
no_third true false c h = refl
no_third false b c h = refl

all_three : (a b c : Bool) → a ≡ true → b ≡ true → c ≡ true → (a && (b && c)) ≡ true
all_three a b c h k l = rw (h, k, l) refl

pub left_above : (nodes : List Node) (level d key room : ℕ) (root : Link) (link : Option Link) → level ≡ suc d → link ≡ Some root → link_below room (at nodes root.at).left ≡ false → yields level key room (tree_of nodes level link) ≡ false
left_above nodes level d key room root link e h n = yields_is nodes level d key room root link e h ∙ no_second (nat_eq root.item.key key) _ _ n

pub right_above : (nodes : List Node) (level d key room : ℕ) (root : Link) (link : Option Link) → level ≡ suc d → link ≡ Some root → link_below room (at nodes root.at).right ≡ false → yields level key room (tree_of nodes level link) ≡ false
right_above nodes level d key room root link e h n = yields_is nodes level d key room root link e h ∙ no_third (nat_eq root.item.key key) (link_below room (at nodes root.at).left) _ n

pub does_yield : (nodes : List Node) (level d key room : ℕ) (root : Link) (link : Option Link) → level ≡ suc d → link ≡ Some root → root.item.key ≡ key → link_below room (at nodes root.at).left ≡ true → link_below room (at nodes root.at).right ≡ true → yields level key room (tree_of nodes level link) ≡ true
does_yield nodes level d key room root link e h k l r = yields_is nodes level d key room root link e h ∙ all_three _ _ _ (ap (λ (n : ℕ). nat_eq root.item.key n) (sym k) ∙ same_test root.item.key) l r

pub exchanged_is : (nodes : List Node) (level d : ℕ) (root : Link) (link : Option Link) (new : Item) → level ≡ suc d → link ≡ Some root → tree_of nodes level (Some (record { at = root.at; item = new })) ≡ exchange new (tree_of nodes level link)
exchanged_is nodes level d root link new e h = rw (e, h) refl

-- ---- what the tree keeps

in_order_exchange : (d low key : ℕ) (new : Item) (tree : Tree) → IsInOrder d low tree → yields d key new.room tree ≡ true → low ≤ new.key → new.key < low + half d → look d low new.key tree ≡ None → IsInOrder d low (exchange new tree)
in_order_exchange zero low key new tree s y a b n = let q : false ≡ true = y in absurd (cc)
in_order_exchange (suc d) low key new Empty s y a b n = s
in_order_exchange (suc d) low key new (Fork i item left right) s y a b n =
    let out = absent (nat_eq new.key item.key) item.room _ n in
    let t = both _ _ y in
    let u = both _ _ t.1 in
    (a, b, out.1, below new.room left u.0, below new.room right u.1, s.5, s.6)

exchanged_look : (here gone : Bool) (r s : ℕ) (rest : Option ℕ) → (gone ≡ true → rest ≡ None) → cond here (Some s) rest ≡ cond here (Some s) (cond gone None (cond gone (Some r) rest))
exchanged_look true gone r s rest f = refl
exchanged_look false true r s rest f = f refl
exchanged_look false false r s rest f = refl

look_exchange : (d low key : ℕ) (new : Item) (tree : Tree) (k : ℕ) → IsInOrder d low tree → yields d key new.room tree ≡ true → look d low k (exchange new tree) ≡ cond (nat_eq k new.key) (Some new.room) (cond (nat_eq k key) None (look d low k tree))
look_exchange zero low key new tree k s y = let q : false ≡ true = y in absurd (cc)
look_exchange (suc d) low key new Empty k s y = let q : false ≡ true = y in absurd (cc)
look_exchange (suc d) low key new (Fork i item left right) k s y =
    let e = test_eq item.key key (both _ _ y).0 in
    exchanged_look (nat_eq k new.key) (nat_eq k item.key) item.room new.room _ (gone_at d low item.key k left right s.2)
    ∙ ap (λ (m : ℕ). cond (nat_eq k new.key) (Some new.room) (cond (nat_eq k m) None (look (suc d) low k (Fork i item left right)))) e

within_exchange : (n : ℕ) (new : Item) (tree : Tree) → IsWithinArena n tree → IsWithinArena n (exchange new tree)
within_exchange n new Empty w = w
within_exchange n new (Fork i item left right) w = w

apart_exchange : (new : Item) (tree : Tree) → IsApart tree → IsApart (exchange new tree)
apart_exchange new Empty a = a
apart_exchange new (Fork i item left right) a = a

pool_exchange : (n : ℕ) (new : Item) (tree : Tree) (free : List ℕ) → IsPool n (λ j. has j tree) (size tree) free → IsPool n (λ j. has j (exchange new tree)) (size (exchange new tree)) free
pool_exchange n new Empty free p = p
pool_exchange n new (Fork i item left right) free p = p

size_exchange : (new : Item) (tree : Tree) → size (exchange new tree) ≡ size tree
size_exchange new Empty = refl
size_exchange new (Fork i item left right) = refl

-- ---- the arena

pub held_exchanged : (a : Arena) (free : List ℕ) (key : ℕ) (item : Item) (root : Option Link) → IsHeld a free → yields a.levels key item.room (tree a) ≡ true → item.key < half a.levels → look a.levels 0 item.key (tree a) ≡ None
    → tree_of a.nodes a.levels root ≡ exchange item (tree a) → IsHeld (record { nodes = a.nodes; root = root; levels = a.levels; most = a.most }) free
held_exchanged a free key item root held y below absent e =
    let t = tree a in
    record {
      within = subst (IsWithinArena (length a.nodes)) (sym e) (within_exchange (length a.nodes) item t held.within);
      apart = subst IsApart (sym e) (apart_exchange item t held.apart);
      in_order = subst (IsInOrder a.levels 0) (sym e) (in_order_exchange a.levels 0 key item t held.in_order y (omega arith) (omega arith) absent);
      pool = subst (λ (x : Tree). IsPool (length a.nodes) (λ j. has j x) (size x) free) (sym e) (pool_exchange (length a.nodes) item t free held.pool);
      few = held.few;
    }

pub room_exchanged : (a : Arena) (free : List ℕ) (key : ℕ) (item : Item) (root : Option Link) → IsHeld a free → yields a.levels key item.room (tree a) ≡ true
    → tree_of a.nodes a.levels root ≡ exchange item (tree a) → (k : ℕ) → room_at (record { nodes = a.nodes; root = root; levels = a.levels; most = a.most }) k ≡ cond (nat_eq k item.key) (Some item.room) (cond (nat_eq k key) None (room_at a k))
unfolding room_at
room_exchanged a free key item root held y e k = ap (look a.levels 0 k) e ∙ look_exchange a.levels 0 key item (tree a) k held.in_order y

pub size_exchanged : (a : Arena) (item : Item) (root : Option Link) → tree_of a.nodes a.levels root ≡ exchange item (tree a) → size_of (record { nodes = a.nodes; root = root; levels = a.levels; most = a.most }) ≡ size_of a
unfolding size_of
size_exchanged a item root e = ap size e ∙ size_exchange item (tree a)

-- a key that has room is in the range of the tree
pub inside_is : (a : Arena) (free : List ℕ) (key : ℕ) → IsHeld a free → IsSome (room_at a key) → key < half a.levels
unfolding room_at
inside_is a free key held h =
    let x = some_is (look a.levels 0 key (tree a)) h in
    let r = in_range a.levels 0 (tree a) key x.0 held.in_order x.1 in
    omega (arith, r.1)
