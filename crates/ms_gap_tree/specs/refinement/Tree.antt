-- Trees by halves of a range of keys: the item with the most room stands at the root, the others in the half that their key lies in.
use Rattle.std.specs.Prelude.{◌≡◌, ℕ, zero, suc, ◌+◌, ◌/◌, ◌^◌, ◌<◌, ◌≤◌, Bool, true, false, cond, ◌&&◌, ◌||◌, nat_eq, nat_lt, nat_le, Option, Some, None, ⊤, min}
use Rattle.ms_gap_tree.specs.declared.node.Item.{Item}
use Rattle.ms_gap_tree.specs.declared.node.Link.{Link}

-- the slot of the item at the root, the item, and the two halves
pub data Tree : Type 0 where
  Empty : Tree
  Fork : (slot : ℕ) (item : Item) (left right : Tree) → Tree

-- half of the range of a tree of one level more than these
unfoldable pub half : ℕ → ℕ
half d = 2 ^ d / 2

-- of two items the one with more room, the first where neither has more
abbrev pub upper : Item → Item → Item
upper x y = cond (nat_lt x.room y.room) y x

-- the other one
abbrev pub lower : Item → Item → Item
lower x y = cond (nat_lt x.room y.room) x y

-- the tree with an item more, which takes a slot of its own
abbrev pub insert : ℕ → ℕ → ℕ → Item → Tree → Tree
insert zero low slot new tree = tree
insert (suc d) low slot new Empty = Fork slot new Empty Empty
insert (suc d) low slot new (Fork at item left right) =
    cond (nat_lt (lower item new).key (low + half d))
    (Fork at (upper item new) (insert d low slot (lower item new) left) right)
    (Fork at (upper item new) left (insert d (low + half d) slot (lower item new) right))

-- what room is kept under a key
abbrev pub look : ℕ → ℕ → ℕ → Tree → Option ℕ
look zero low key tree = None
look (suc d) low key Empty = None
look (suc d) low key (Fork at item left right) =
    cond (nat_eq key item.key) (Some item.room) (cond (nat_lt key (low + half d)) (look d low key left) (look d (low + half d) key right))

-- the root has at most this room
abbrev pub IsBelow : ℕ → Tree → Type 0
IsBelow most Empty = ⊤
IsBelow most (Fork at item left right) = item.room ≤ most

-- the slot is one of the tree's
abbrev pub has : ℕ → Tree → Bool
has slot Empty = false
has slot (Fork at item left right) = nat_eq slot at || (has slot left || has slot right)

-- no slot is this one or above
abbrev pub IsWithinArena : ℕ → Tree → Type 0
IsWithinArena n Empty = ⊤
IsWithinArena n (Fork at item left right) = (at < n) × IsWithinArena n left × IsWithinArena n right

-- each slot occurs once
abbrev pub IsApart : Tree → Type 0
IsApart Empty = ⊤
IsApart (Fork at item left right) =
    (has at left ≡ false) × (has at right ≡ false) × ((j : ℕ) → has j left ≡ true → has j right ≡ false) × IsApart left × IsApart right

-- the root has this room
abbrev pub fits : ℕ → Tree → Bool
fits n Empty = false
fits n (Fork at item left right) = nat_le n item.room

abbrev pub link_fits : ℕ → Option Link → Bool
link_fits n None = false
link_fits n (Some root) = nat_le n root.item.room

-- the less of a key and one that may be there
abbrev pub least : ℕ → Option ℕ → ℕ
least key None = key
least key (Some other) = min key other

-- the least key with this room, by one way down
abbrev pub lowest : ℕ → Tree → Option ℕ
lowest n Empty = None
lowest n (Fork at item left right) = cond (nat_lt item.room n) None (Some (least item.key (cond (fits n left) (lowest n left) (lowest n right))))

-- keys, rooms and halves are in order: each key is in its range and occurs once, and no room is above the root's
abbrev pub IsInOrder : ℕ → ℕ → Tree → Type 0
IsInOrder zero low Empty = ⊤
IsInOrder zero low (Fork at item left right) = ⊥
IsInOrder (suc d) low Empty = ⊤
IsInOrder (suc d) low (Fork at item left right) =
    (low ≤ item.key) × (item.key < low + half (suc d))
    × (cond (nat_lt item.key (low + half d)) (look d low item.key left) (look d (low + half d) item.key right) ≡ None)
    × IsBelow item.room left × IsBelow item.room right × IsInOrder d low left × IsInOrder d (low + half d) right

-- the item at the root
abbrev pub root : Tree → Item
root Empty = record { key = 0; room = 0 }
root (Fork at item left right) = item

abbrev pub is_empty : Tree → Bool
is_empty Empty = true
is_empty (Fork at item left right) = false

-- the root of the first tree has no less room than that of the second
abbrev pub first : Tree → Tree → Bool
first Empty right = false
first (Fork at item left' right') Empty = true
first (Fork at item left' right') (Fork at' item' left'' right'') = nat_le item'.room item.room

abbrev pub link_first : Option Link → Option Link → Bool
link_first None right = false
link_first (Some x) None = true
link_first (Some x) (Some y) = nat_le y.item.room x.item.room

-- the tree without the item at its root
abbrev pub pop : Tree → Tree
pop Empty = Empty
pop (Fork at item left right) = cond (first left right) (Fork at (root left) (pop left) right) (cond (is_empty right) Empty (Fork at (root right) left (pop right)))

-- the slot that is free then
abbrev pub freed : Tree → ℕ
freed Empty = 0
freed (Fork at item left right) = cond (first left right) (freed left) (cond (is_empty right) at (freed right))

-- this room is kept under the key
abbrev pub HasRoom : ℕ → ℕ → ℕ → Tree → ℕ → Type 0
HasRoom d low n tree key = (room : ℕ) × (look d low key tree ≡ Some room) × (n ≤ room)

-- the least key with this room, or none where no key has it
abbrev pub IsLowest : ℕ → ℕ → ℕ → Tree → Option ℕ → Type 0
IsLowest d low n tree (Some key) = HasRoom d low n tree key × ((other : ℕ) → other < key → ¬ (HasRoom d low n tree other))
IsLowest d low n tree None = (key : ℕ) → ¬ (HasRoom d low n tree key)

-- the tree without the item of this key
abbrev pub remove : ℕ → ℕ → ℕ → Tree → Tree
remove zero low key tree = tree
remove (suc d) low key Empty = Empty
remove (suc d) low key (Fork at item left right) =
    cond (nat_eq key item.key) (pop (Fork at item left right))
    (cond (nat_lt key (low + half d)) (Fork at item (remove d low key left) right) (Fork at item left (remove d (low + half d) key right)))

-- the slot that is free then, where the tree has the key
abbrev pub removed : ℕ → ℕ → ℕ → Tree → Option ℕ
removed zero low key tree = None
removed (suc d) low key Empty = None
removed (suc d) low key (Fork at item left right) =
    cond (nat_eq key item.key) (Some (freed (Fork at item left right)))
    (cond (nat_lt key (low + half d)) (removed d low key left) (removed d (low + half d) key right))

-- how many nodes are looked at on the way down
abbrev pub looked : ℕ → ℕ → Tree → ℕ
looked zero n tree = 0
looked (suc d) n Empty = 0
looked (suc d) n (Fork at item left right) = cond (nat_lt item.room n) 0 (1 + cond (fits n left) (looked d n left) (looked d n right))

-- how many items the tree has
abbrev pub size : Tree → ℕ
size Empty = 0
size (Fork at item left right) = 1 + (size left + size right)

-- the first of two that is there
abbrev pub either : Option Item → Option Item → Option Item
either None y = y
either (Some x) y = Some x

-- of an item and one that may be there the one whose key is the greatest up to this one
abbrev pub nearer : ℕ → Item → Option Item → Option Item
nearer key item None = cond (nat_le item.key key) (Some item) None
nearer key item (Some x) = cond (nat_le item.key key) (cond (nat_le x.key item.key) (Some item) (Some x)) (Some x)

-- the item of the greatest key up to this one
abbrev pub last : ℕ → ℕ → ℕ → Tree → Option Item
last zero low key tree = None
last (suc d) low key Empty = None
last (suc d) low key (Fork at item left right) =
    nearer key item (cond (nat_lt key (low + half d)) (last d low key left) (either (last d (low + half d) key right) (last d low key left)))

-- whether the root has at most this room
abbrev pub is_below : ℕ → Tree → Bool
is_below most Empty = true
is_below most (Fork at item left right) = nat_le item.room most

abbrev pub link_below : ℕ → Option Link → Bool
link_below most None = true
link_below most (Some root) = nat_le root.item.room most

-- whether the root's item has this key, and one with this room may stand in its place
abbrev pub yields : ℕ → ℕ → ℕ → Tree → Bool
yields zero key room tree = false
yields (suc d) key room Empty = false
yields (suc d) key room (Fork at item left right) = nat_eq item.key key && (is_below room left && is_below room right)

-- the tree with another item at its root
abbrev pub exchange : Item → Tree → Tree
exchange new Empty = Empty
exchange new (Fork at item left right) = Fork at new left right
