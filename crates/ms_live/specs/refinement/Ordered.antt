-- Trees of segments by halves of a range of identities: the oldest segment stands at the root, the others in the half that their identity lies in.
use Rattle.std.specs.Prelude.{◌≡◌, ◌==◌, ℕ, zero, suc, ◌+◌, ◌-◌, ◌<◌, ◌≤◌, Bool, cond, nat_eq, nat_lt, List, [], ◌∷◌, ◌++◌, length, get_or, All, Option, Some, None, ⊤}
use Rattle.ms_gap_tree.specs.refinement.Rooms.{IsPool}
use Rattle.ms_gap_tree.specs.refinement.Tree as rooms
use Rattle.ms_gap_tree.specs.refinement.Tree.{half}
use Rattle.ms_gap_tree.specs.declared.node.Item.{Item}
use Rattle.ms_live.specs.declared.branch.Branch.{Branch}
use Rattle.ms_live.specs.declared.branch.Halves.{Halves}
use Rattle.ms_live.specs.declared.gaps.Live.{Live}
use Rattle.ms_live.specs.declared.gaps.TheConstants.{MOST_LIVE}

-- the slot of the root, how many segments there are, the segment at the root, and the two halves
pub data Ordered : Type 0 where
  Empty : Ordered
  Fork : (slot count : ℕ) (segment : Live) (lower upper : Ordered) → Ordered

abbrev pub blank : Halves
blank = record { lower = None; upper = None }

abbrev pub at : List Halves → ℕ → Halves
at nodes i = get_or nodes i blank

-- the tree that an arena holds from a branch on
abbrev pub tree_of : List Halves → ℕ → Option Branch → Ordered
tree_of nodes zero None = Empty
tree_of nodes zero (Some root) = Fork root.at root.count root.segment Empty Empty
tree_of nodes (suc d) None = Empty
tree_of nodes (suc d) (Some root) = Fork root.at root.count root.segment (tree_of nodes d (at nodes root.at).lower) (tree_of nodes d (at nodes root.at).upper)

-- the segments in order
abbrev pub segments : Ordered → List Live
segments Empty = []
segments (Fork i n s l u) = s ∷ (segments l ++ segments u)

abbrev pub count : Ordered → ℕ
count Empty = 0
count (Fork i n s l u) = n

-- ---- slots

-- what stands at each slot of a shape
abbrev pub no_item : Item
no_item = record { key = 0; room = 0 }

-- the tree of rooms that has the same slots
abbrev pub shape : Ordered → rooms.Tree
shape Empty = rooms.Empty
shape (Fork i n s l u) = rooms.Fork i no_item (shape l) (shape u)

-- the slot is one of the tree's
abbrev pub has : ℕ → Ordered → Bool
has slot t = rooms.has slot (shape t)

-- no slot is this one or above
abbrev pub IsWithinArena : ℕ → Ordered → Type 0
IsWithinArena m t = rooms.IsWithinArena m (shape t)

-- each slot occurs once
abbrev pub IsApart : Ordered → Type 0
IsApart t = rooms.IsApart (shape t)

-- identities are in their ranges and below those of the halves, and counts are right
abbrev pub IsInOrder : ℕ → ℕ → Ordered → Type 0
IsInOrder zero low Empty = ⊤
IsInOrder zero low (Fork i n s l u) = ⊥
IsInOrder (suc d) low Empty = ⊤
IsInOrder (suc d) low (Fork i n s l u) =
    (low ≤ s.id) × (s.id < low + half (suc d)) × (n ≡ 1 + (length (segments l) + length (segments u)))
    × All (λ (t : Live). s.id < t.id) (segments l) × All (λ (t : Live). s.id < t.id) (segments u) × IsInOrder d low l × IsInOrder d (low + half d) u

-- ---- what is done

-- a segment more, of the newest identity
abbrev pub push : ℕ → ℕ → ℕ → Live → Ordered → Ordered
push zero low slot new tree = tree
push (suc d) low slot new Empty = Fork slot 1 new Empty Empty
push (suc d) low slot new (Fork i n s l u) =
    cond (nat_lt new.id (low + half d)) (Fork i (n + 1) s (push d low slot new l) u) (Fork i (n + 1) s l (push d (low + half d) slot new u))

-- the segment at the root
abbrev pub root : Live → Ordered → Live
root s Empty = s
root s (Fork i n t l u) = t

-- the tree without the segment at its root
abbrev pub pop : Ordered → Ordered
pop Empty = Empty
pop (Fork i n s Empty Empty) = Empty
pop (Fork i n s Empty (Fork j m t l u)) = Fork i (n - 1) t Empty (pop (Fork j m t l u))
pop (Fork i n s (Fork j m t l u) upper) = Fork i (n - 1) t (pop (Fork j m t l u)) upper

-- the slot that is free then
abbrev pub freed : Ordered → ℕ
freed Empty = 0
freed (Fork i n s Empty Empty) = i
freed (Fork i n s Empty (Fork j m t l u)) = freed (Fork j m t l u)
freed (Fork i n s (Fork j m t l u) upper) = freed (Fork j m t l u)

-- the tree as one of a level more
abbrev pub lifted : Ordered → Ordered
lifted Empty = Empty
lifted (Fork i n s l u) = Fork (freed (Fork i n s l u)) n s (pop (Fork i n s l u)) Empty

-- the tree without the segment of this identity
abbrev pub remove : ℕ → ℕ → ℕ → Ordered → Ordered
remove zero low id tree = tree
remove (suc d) low id Empty = Empty
remove (suc d) low id (Fork i n s l u) =
    cond (s.id == id) (pop (Fork i n s l u)) (cond (nat_lt id (low + half d)) (Fork i (n - 1) s (remove d low id l) u) (Fork i (n - 1) s l (remove d (low + half d) id u)))

-- the slot that is free then, where the tree has the identity
abbrev pub removed : ℕ → ℕ → ℕ → Ordered → Option ℕ
removed zero low id tree = None
removed (suc d) low id Empty = None
removed (suc d) low id (Fork i n s l u) =
    cond (s.id == id) (Some (freed (Fork i n s l u))) (cond (nat_lt id (low + half d)) (removed d low id l) (removed d (low + half d) id u))

-- the segment of this identity
abbrev pub seek : ℕ → ℕ → ℕ → Ordered → Option Live
seek zero low id tree = None
seek (suc d) low id Empty = None
seek (suc d) low id (Fork i n s l u) = cond (s.id == id) (Some s) (cond (nat_lt id (low + half d)) (seek d low id l) (seek d (low + half d) id u))

-- the segment with so many older ones
abbrev pub pick : ℕ → ℕ → Ordered → Option Live
pick zero k tree = None
pick (suc d) k Empty = None
pick (suc d) k (Fork i n s l u) = cond (nat_eq k 0) (Some s) (cond (nat_lt (k - 1) (count l)) (pick d (k - 1) l) (pick d (k - 1 - count l) u))

-- what always holds of an arena with a tree of segments
pub record IsStored (nodes : List Halves) (depth : ℕ) (top : Option Branch) (free : List ℕ) : Type 0 where
  pub within : IsWithinArena (length nodes) (tree_of nodes depth top)
  pub apart : IsApart (tree_of nodes depth top)
  pub in_order : IsInOrder depth 0 (tree_of nodes depth top)
  pub pool : IsPool (length nodes) (λ j. has j (tree_of nodes depth top)) (length (segments (tree_of nodes depth top))) free
  pub few : length nodes ≤ MOST_LIVE
  pub levels : depth ≤ 65
