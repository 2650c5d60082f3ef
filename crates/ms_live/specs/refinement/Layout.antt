-- How gaps lie between live segments, by a room under each key: a key by 16 is the address at which a gap begins.
use Rattle.std.specs.Prelude.{◌≡◌, ◌≢◌, ℕ, ◌+◌, ◌-◌, ◌*◌, ◌/◌, ◌%◌, ◌<◌, ◌≤◌, min, Option, Some, None}
use Rattle.ms_live.specs.Place.{IsOutside}
use Rattle.ms_live.specs.declared.gaps.Live.{Live}

-- the address lies in the segment
abbrev pub IsIn : ℕ → Live → Type 0
IsIn address s = (s.base ≤ address) × (address < s.base + s.size)

-- the address is within the capacity and in no live segment
abbrev pub IsOpen : (Live → Type 0) → ℕ → ℕ → Type 0
IsOpen IsLive capacity address = (address < capacity) × ((s : Live) → IsLive s → IsOutside address s)

-- each address from one up to another is open
abbrev pub IsRun : (Live → Type 0) → ℕ → ℕ → ℕ → Type 0
IsRun IsLive capacity from to = (address : ℕ) → from ≤ address → address < to → IsOpen IsLive capacity address

-- the key of the gap behind a segment
abbrev pub behind : Live → ℕ
behind s = (s.base + s.size + 15) / 16

-- the keys are 0 and those behind the segments that have bytes, and under each is the room up to the next segment
pub record IsLayout (IsLive : Live → Type 0) (capacity : ℕ) (room_at : ℕ → Option ℕ) : Type 0 where
  pub aligned : (s : Live) → IsLive s → s.base % 16 ≡ 0
  pub within : (s : Live) → IsLive s → 0 < s.size → s.base + s.size ≤ capacity
  pub apart : (s t : Live) → IsLive s → IsLive t → (address : ℕ) → IsIn address s → IsIn address t → s ≡ t
  pub first : (room : ℕ) × (room_at 0 ≡ Some room)
  pub backs : (s : Live) → IsLive s → 0 < s.size → (room : ℕ) × (room_at (behind s) ≡ Some room)
  pub starts : (key room : ℕ) → room_at key ≡ Some room → 0 < key → (s : Live) × IsLive s × (0 < s.size) × (behind s ≡ key)
  -- a gap is free, and each run from a multiple of 16 on lies in one
  pub free : (key room : ℕ) → room_at key ≡ Some room → IsRun IsLive capacity (16 * key) (16 * key + room)
  pub whole : (from to : ℕ) → from < to → from % 16 ≡ 0 → IsRun IsLive capacity from to → (key : ℕ) × (room : ℕ) × (room_at key ≡ Some room) × (16 * key ≤ from) × (to ≤ 16 * key + room)

-- the rooms before and after a segment begins in the gap of a key that had so much room
pub record Begins (f g : ℕ → Option ℕ) (s : Live) (key room : ℕ) : Type 0 where
  pub at_key : g key ≡ Some 0
  pub at_behind : g (behind s) ≡ Some (16 * key + room - 16 * behind s)
  pub others : (k : ℕ) → k ≢ key → k ≢ behind s → g k ≡ f k

-- what is known of the gap in which it begins
pub record IsBegun (f : ℕ → Option ℕ) (s : Live) (key room : ℕ) : Type 0 where
  pub at : s.base ≡ 16 * key
  pub found : f key ≡ Some room
  pub fits : s.size ≤ room
  pub absent : f (behind s) ≡ None

-- the rooms before and after a segment ends: its gap and the one behind it are one, up to the capacity
pub record Ends (capacity : ℕ) (f g : ℕ → Option ℕ) (s : Live) (key room rest : ℕ) : Type 0 where
  pub before : 16 * key ≤ s.base
  pub found : f key ≡ Some room
  pub none_between : (k : ℕ) → key < k → 16 * k ≤ s.base → f k ≡ None
  pub back : f (behind s) ≡ Some rest
  pub at_key : g key ≡ Some (min (16 * behind s + rest) capacity - 16 * key)
  pub at_behind : g (behind s) ≡ None
  pub others : (k : ℕ) → k ≢ key → k ≢ behind s → g k ≡ f k
