-- Which states of the colour monitor are shown by what is kept: those with the same members, whatever their order.
use Rattle.std.specs.Prelude.{◌≡◌, ◌≢◌, ◌↔◌, ◌⊎◌, ℕ, ◌+◌, ◌<◌, ◌≤◌, true, false, List, Some, AllPairs, Contains, length}
use Rattle.ms_event.specs.Monitor.{Paint, Shade, State}
use Rattle.ms_monitor.specs.refinement.Colours.{colour_of, live_in}
use Rattle.ms_monitor.specs.refinement.Kept.{Kept}
use Rattle.ms_monitor.specs.declared.colours.Colour.{Colour}

-- a live colour is painted from its base on, at the places below its size
abbrev pub IsPaint : List (ℕ × Colour) → Paint → Type 0
IsPaint colours p = (c : Colour) × (colour_of colours p.colour ≡ Some c) × (c.is_live ≡ true) × (p.place < c.size) × (p.address ≡ c.base + p.place)

abbrev pub IsLiveColour : List (ℕ × Colour) → ℕ → Type 0
IsLiveColour colours id = (c : Colour) × (colour_of colours id ≡ Some c) × (c.is_live ≡ true)

abbrev pub IsUsed : List (ℕ × Colour) → ℕ → Type 0
IsUsed colours id = (c : Colour) × (colour_of colours id ≡ Some c)

-- the writable shade of a whole allocation
abbrev pub IsWhole : List (ℕ × Colour) → Shade → Type 0
IsWhole colours x = (c : Colour) × (colour_of colours x.colour ≡ Some c) × (x.lo ≡ 0) × (x.hi ≡ c.size) × (x.sealed ≡ false)

-- a shade is known from its allocation, or since it was sliced or sealed
abbrev pub IsKnown : Kept → Shade → Type 0
IsKnown k x = IsWhole k.colours x ⊎ Contains k.shades x

pub record Shows (k : Kept) (s : State) : Type 0 where
  pub painted : (p : Paint) → Contains s.painted p ↔ IsPaint k.colours p
  pub live : (id : ℕ) → Contains s.live id ↔ IsLiveColour k.colours id
  pub used : (id : ℕ) → Contains s.used id ↔ IsUsed k.colours id
  pub shades : (x : Shade) → Contains s.shades x ↔ IsKnown k x
  pub count : length s.live ≡ live_in k.colours
  pub once : AllPairs (λ (i j : ℕ). i ≢ j) s.live

-- so many addresses from one on are those of a colour, at places inside the shade
abbrev pub LieIn : Colour → Shade → ℕ → ℕ → Type 0
LieIn c x address width = (c.base + x.lo ≤ address) × (address + width ≤ c.base + x.hi) × (address + width ≤ c.base + c.size)

-- they are painted with the colour of the shade so
abbrev pub IsCovered : List (ℕ × Colour) → Shade → ℕ → ℕ → Type 0
IsCovered colours x address width = 0 < width → (c : Colour) × (colour_of colours x.colour ≡ Some c) × (c.is_live ≡ true) × LieIn c x address width
