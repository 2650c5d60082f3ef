-- What ordered gaps keep.
use Rattle.std.specs.Prelude.{◌≡◌, ℕ, ◌+◌, ◌/◌, ◌<◌, ◌≤◌, cond, nat_eq, nat_lt, List, [], ◌∷◌, AllPairs, Contains, length}
use Rattle.ms_gap_tree.specs.refinement.Rooms.{Arena, nodes_looked_at, room_at, size_of}
use Rattle.ms_gap_tree.specs.refinement.Tree.{half}
use Rattle.ms_live.specs.refinement.Layout.{IsLayout}
use Rattle.ms_live.specs.declared.gaps.Live.{Live}
use Rattle.ms_live.specs.declared.gaps.TheConstants.{MOST_LIVE, GAP_LEVELS}

-- how many addresses there are, the live segments, and the rooms of the gaps between them
pub record Kept : Type 0 where
  pub addresses : ℕ
  pub live : List Live
  pub rooms : Arena

-- how many nodes a search for a place is to look at
abbrev pub looked_at : Kept → ℕ → ℕ
looked_at k n = cond (nat_eq n 0) 0 (nodes_looked_at k.rooms n)

-- how many segments have bytes
abbrev pub filled : List Live → ℕ
filled [] = 0
filled (s ∷ rest) = cond (nat_lt 0 s.size) 1 0 + filled rest

-- a tree of so many levels has the keys of all gaps within a capacity
abbrev pub AreEnough : (levels capacity : ℕ) → Type 0
AreEnough levels capacity = (levels ≤ GAP_LEVELS) × ((capacity + 15) / 16 < half levels)

-- what always holds of it
pub record IsKept (k : Kept) : Type 0 where
  pub layout : IsLayout (Contains k.live) k.addresses (room_at k.rooms)
  pub addresses : k.addresses < 4294967296
  pub rising : AllPairs (λ (s t : Live). s.id < t.id) k.live
  pub few : length k.live ≤ MOST_LIVE
  pub size : size_of k.rooms ≡ 1 + filled k.live
  pub levels : AreEnough k.rooms.levels k.addresses
  pub most : k.rooms.most ≡ MOST_LIVE + 1
