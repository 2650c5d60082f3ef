-- The ranges of addresses that handles lead to, over the list of the live segments.
use Rattle.std.specs.Prelude.{◌≡◌, ◌==◌, ◌<◌, ◌≤◌, ℕ, ◌+◌, List, find, All, AllPairs, Option, Some, None}
use Rattle.ms_handle.specs.declared.handle.Handle.{Handle}
use Rattle.ms_handle.specs.declared.handle.Handle.TheVariants as handles
use Rattle.ms_linear.specs.declared.value.Value.{Value}
use Rattle.ms_linear.specs.declared.value.Value.TheVariants as values
use Rattle.ms_live.specs.declared.gaps.Live.{Live}
use Rattle.ms_reach.specs.declared.leading.Range.{Range}

-- identities rise
abbrev pub IsRising : List Live → Type 0
IsRising live = AllPairs (λ (s t : Live). s.id < t.id) live

abbrev pub found_in : List Live → ℕ → Option Live
found_in live id = find (λ (s : Live). s.id == id) live

-- all segments lie below an address
abbrev pub EndBelow : List Live → ℕ → Type 0
EndBelow live n = All (λ (s : Live). s.base + s.size ≤ n) live

-- a part of a segment
abbrev pub range_at : Live → ℕ → ℕ → Range
range_at s base size = record { from = s.base + base; to = s.base + base + size }

abbrev pub range_in : Option Live → ℕ → ℕ → Option Range
range_in None base size = None
range_in (Some s) base size = Some (range_at s base size)

abbrev pub range_of : List Live → Handle → Option Range
range_of live (handles.Good sealed id base size offset) = range_in (found_in live id) base size
range_of live h = None

abbrev pub value_range : List Live → Value → Option Range
value_range live (values.Handle h) = range_of live h
value_range live v = None

-- the bound lies within the segment, where that is live
abbrev pub IsInside : List Live → Handle → Type 0
IsInside live (handles.Good sealed id base size offset) = (s : Live) → found_in live id ≡ Some s → base + size ≤ s.size
IsInside live h = Unit {0}

abbrev pub IsValueInside : List Live → Value → Type 0
IsValueInside live (values.Handle h) = IsInside live h
IsValueInside live v = Unit {0}
