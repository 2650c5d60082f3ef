-- How the gaps between live allocations change, by a room under each key: a key by 16 is the address at which a gap begins.
use Rattle.std.specs.Prelude.{◌≡◌, ◌≢◌, ℕ, ◌+◌, ◌-◌, ◌*◌, ◌/◌, ◌^◌, ◌<◌, ◌≤◌, Option, Some, None}
use Rattle.ms_handle.specs.declared.handle.Kind.TheVariants.{Heap}
use Rattle.ms_live.specs.declared.gaps.Live.{Live}

-- an allocation as layouts see it; its kind is of no matter
abbrev pub segment : ℕ → ℕ → ℕ → Live
segment id base size = record { id = id; base = base; size = size; kind = Heap }

-- the key of the gap behind so many addresses
abbrev pub back : ℕ → ℕ → ℕ
back base size = (base + size + 15) / 16

-- no gap ends above 2^32
abbrev pub IsNear : (ℕ → Option ℕ) → Type 0
IsNear f = (key room : ℕ) → f key ≡ Some room → 16 * key + room ≤ 2 ^ 32

-- the last gap that begins at an address or before it
pub record IsBefore (f : ℕ → Option ℕ) (address key room : ℕ) : Type 0 where
  pub found : f key ≡ Some room
  pub up_to : 16 * key ≤ address
  pub none_between : (k : ℕ) → key < k → 16 * k ≤ address → f k ≡ None

-- the rooms before and after an allocation begins in a gap
pub record Splits (f g : ℕ → Option ℕ) (base size key room : ℕ) : Type 0 where
  pub at_key : g key ≡ Some (base - 16 * key)
  pub at_back : g (back base size) ≡ Some (16 * key + room - 16 * back base size)
  pub others : (k : ℕ) → k ≢ key → k ≢ back base size → g k ≡ f k
