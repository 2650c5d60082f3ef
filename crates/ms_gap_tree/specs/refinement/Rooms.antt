-- Rooms under keys, and the arena that keeps them.
use Rattle.std.specs.Prelude.{◌≡◌, ◌≢◌, ℕ, ◌+◌, ◌<◌, ◌≤◌, Bool, List, Option, Some, None, All, AllPairs, length, false}
use Rattle.ms_gap_tree.specs.refinement.Arena.{tree_of}
use Rattle.ms_gap_tree.specs.refinement.Tree.{Tree, has, look, looked, size, IsApart, IsInOrder, IsWithinArena}
use Rattle.ms_gap_tree.specs.declared.node.Item.{Item}
use Rattle.ms_gap_tree.specs.declared.node.Link.{Link}
use Rattle.ms_gap_tree.specs.declared.node.Node.{Node}

-- the nodes, the way to the root, how many levels the tree has, and how many items there may be
pub record Arena : Type 0 where
  pub nodes : List Node
  pub root : Option Link
  pub levels : ℕ
  pub most : ℕ

abbrev pub tree : Arena → Tree
tree a = tree_of a.nodes a.levels a.root

-- what room is kept under a key
unfoldable pub room_at : Arena → ℕ → Option ℕ
room_at a key = look a.levels 0 key (tree a)

-- how many items are kept
unfoldable pub size_of : Arena → ℕ
size_of a = size (tree a)

-- how many nodes a search for the least key with room is to look at
unfoldable pub nodes_looked_at : Arena → ℕ → ℕ
nodes_looked_at a n = looked a.levels n (tree a)

-- this room is kept under the key
abbrev pub HasRoom : (ℕ → Option ℕ) → ℕ → ℕ → Type 0
HasRoom f n key = (room : ℕ) × (f key ≡ Some room) × (n ≤ room)

-- the least key with this room, or none where no key has it
abbrev pub IsLowest : (ℕ → Option ℕ) → ℕ → Option ℕ → Type 0
IsLowest f n (Some key) = HasRoom f n key × ((other : ℕ) → other < key → ¬ (HasRoom f n other))
IsLowest f n None = (key : ℕ) → ¬ (HasRoom f n key)

-- the item of the greatest key up to this one, or none where there is none
abbrev pub IsLast : (ℕ → Option ℕ) → ℕ → Option Item → Type 0
IsLast f key (Some x) = (f x.key ≡ Some x.room) × (x.key ≤ key) × ((other : ℕ) → x.key < other → other ≤ key → f other ≡ None)
IsLast f key None = (other : ℕ) → other ≤ key → f other ≡ None

-- of so many slots those that are not had are the free ones, each once
pub record IsPool (n : ℕ) (is_had : ℕ → Bool) (size : ℕ) (free : List ℕ) : Type 0 where
  pub there : All (λ j. (j < n) × (is_had j ≡ false)) free
  pub once : AllPairs (λ i j. i ≢ j) free
  pub count : size + length free ≡ n

-- the arena holds a tree in order, each slot once
pub record IsHeld (a : Arena) (free : List ℕ) : Type 0 where
  pub within : IsWithinArena (length a.nodes) (tree a)
  pub apart : IsApart (tree a)
  pub in_order : IsInOrder a.levels 0 (tree a)
  pub pool : IsPool (length a.nodes) (λ j. has j (tree a)) (size (tree a)) free
  pub few : length a.nodes ≤ a.most
