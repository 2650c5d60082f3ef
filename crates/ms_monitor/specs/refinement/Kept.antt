-- What a monitor keeps.
use Rattle.std.specs.Prelude.{◌≡◌, ℕ, ◌+◌, ◌<◌, ◌≤◌, true, List, Some}
use Rattle.ms_event.specs.Monitor.{Shade, most_live}
use Rattle.ms_gap_tree.specs.refinement.Rooms.{Arena, room_at, size_of}
use Rattle.ms_handle.specs.declared.handle.Kind.TheVariants.{Heap}
use Rattle.ms_live.specs.refinement.Kept.{AreEnough}
use Rattle.ms_live.specs.refinement.Layout.{IsLayout}
use Rattle.ms_live.specs.declared.gaps.Live.{Live}
use Rattle.ms_monitor.specs.refinement.Colours.{colour_of, filled_in, live_in}
use Rattle.ms_monitor.specs.declared.colours.Colour.{Colour}

-- how many addresses there are, all colours used, the shades that were sliced or sealed, and the rooms of the gaps between live allocations
pub record Kept : Type 0 where
  pub capacity : ℕ
  pub colours : List (ℕ × Colour)
  pub shades : List Shade
  pub rooms : Arena

-- the allocation of a live colour, as layouts see it
abbrev pub IsLive : List (ℕ × Colour) → Live → Type 0
IsLive colours s = (colour_of colours s.id ≡ Some (record { base = s.base; size = s.size; is_live = true })) × (s.kind ≡ Heap)

-- what always holds of it
pub record IsKept (k : Kept) : Type 0 where
  pub layout : IsLayout (IsLive k.colours) k.capacity (room_at k.rooms)
  pub addresses : k.capacity < 4294967296
  pub few : live_in k.colours ≤ most_live
  pub size : size_of k.rooms ≡ 1 + filled_in k.colours
  pub levels : AreEnough k.rooms.levels k.capacity
  pub most : k.rooms.most ≡ most_live + 1
