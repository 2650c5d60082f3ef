-- A set of instances as a list of their numbers, how many numbers a set has, and what a thread has left.
use Rattle.std.specs.Prelude.{◌≡◌, ◌==◌, ◌<◌, ◌≤◌, ℕ, ◌+◌, Bool, List, [], length, slice_get, Contains, AllPairs, Some}
use Rattle.std.specs.List.{list_any}
use Rattle.ms_live.specs.declared.gaps.Live.{Live}
use Rattle.ms_segment.specs.Memory.{Memory}
use Rattle.ms_task.specs.Thread.{Thread, thread}
use Rattle.ms_machine.specs.Crews.{by_work}

-- the number is one of these
abbrev pub is_among : List ℕ → ℕ → Bool
is_among set n = list_any (λ m. m == n) set

-- the thread, but where it has ended it has no operands and no locals any more
abbrev pub lent : Thread → Thread
lent t = by_work t.work (thread (record { function = t.frame.function; locals = [] }) [] []) t

-- so many numbers are in the set: a rising list has exactly them
abbrev pub IsCount : (ℕ → Type 0) → ℕ → Type 0
IsCount P n = (ks : List ℕ) × AllPairs (λ (j k : ℕ). j < k) ks × ((k : ℕ) → Contains ks k → P k) × ((k : ℕ) → P k → Contains ks k) × (length ks ≡ n)

-- the live segment with so many older ones has a byte in the set
abbrev pub HasByte : (ℕ → Type 0) → Memory → ℕ → Type 0
HasByte P m i = (s : Live) × (k : ℕ) × (slice_get m.live i ≡ Some s) × (s.base ≤ k) × (k < s.base + s.size) × P k
