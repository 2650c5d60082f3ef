-- Where a new segment lies: the least place over a plain list of live segments.
use Rattle.std.specs.Prelude.{◌≡◌, ◌==◌, ℕ, ◌+◌, ◌%◌, ◌<◌, ◌≤◌, Bool, not, List, Option, Some, None, All, filter}
use Rattle.std.specs.List.{list_any}
use Rattle.ms_live.specs.declared.gaps.Live.{Live}

-- the address lies outside the segment
abbrev pub IsOutside : ℕ → Live → Type 0
IsOutside address segment = (segment.base ≤ address) → (segment.base + segment.size ≤ address)

-- n addresses from the place on are within the capacity and in no live segment
abbrev pub IsFree : List Live → ℕ → ℕ → ℕ → Type 0
IsFree live capacity n place = (k : ℕ) → k < n → (place + k < capacity) × All (IsOutside (place + k)) live

-- a place is divisible by 16
abbrev pub IsAligned : ℕ → Type 0
IsAligned place = place % 16 ≡ 0

-- the least aligned place at which n addresses are free, or none where there is none
abbrev pub IsPlace : List Live → ℕ → ℕ → Option ℕ → Type 0
IsPlace live capacity n (Some place) = IsAligned place × IsFree live capacity n place × ((lower : ℕ) → lower < place → IsAligned lower → ¬ (IsFree live capacity n lower))
IsPlace live capacity n None = (place : ℕ) → IsAligned place → ¬ (IsFree live capacity n place)

-- whether a segment of this identity is live
abbrev pub contains_id : ℕ → List Live → Bool
contains_id id live = list_any (λ segment. segment.id == id) live

-- the live segments but that of this identity
abbrev pub without : ℕ → List Live → List Live
without id live = filter (λ segment. not (segment.id == id)) live
