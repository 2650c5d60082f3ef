-- How the reached bytes are found: addresses that are marked, and ranges of others that are still to be looked at.
use Rattle.std.specs.Prelude.{◌≡◌, ◌<◌, ◌≤◌, ◌⊎◌, ℕ, ◌+◌, ◌-◌, Bool, List, [], ◌∷◌, ◌++◌, length, slice_get, Contains, All, Option, Some, None}
use Rattle.ms_handle.specs.declared.handle.Handle.{Handle}
use Rattle.ms_linear.specs.declared.global.GlobalInst.{GlobalInst}
use Rattle.ms_linear.specs.declared.value.Value.{Value}
use Rattle.ms_live.specs.declared.gaps.Live.{Live}
use Rattle.ms_segment.specs.Memory.{IsSound, Memory}
use Rattle.ms_tagged.specs.Bytes.{Piece}
use Rattle.ms_task.specs.Thread.{Thread}
use Rattle.ms_machine.specs.Store.{Store}
use Rattle.ms_reach.specs.declared.leading.Range.{Range}
use Rattle.ms_reach.specs.Reach.{IsOwnGlobal, IsReached, LeadsTo, ValueLeadsTo, own_values}
use Rattle.ms_reach.specs.refinement.Leading.{EndBelow, range_of, value_range}
use Rattle.ms_reach.specs.refinement.Marking.{IsMarked, trues}

pub record State : Type 0 where
  pub marks : List Bool
  pub todo : List Range

-- ---- what is known to be reached

-- it lies in one of the ranges
abbrev pub IsLed : List Range → ℕ → Type 0
IsLed todo k = (r : Range) × Contains todo r × (r.from ≤ k) × (k < r.to)

-- it is marked, or to be looked at: in one of the ranges, or from one address up to another
abbrev pub IsKnown : State → ℕ → ℕ → ℕ → Type 0
IsKnown c from to k = IsMarked c.marks k ⊎ (IsLed c.todo k ⊎ ((from ≤ k) × (k < to)))

-- What is known is reached; what own values, own globals and marked pieces lead to is known.
pub record IsClosing (inside : ℕ → Bool) (s : Store) (t : Thread) (marked known : ℕ → Type 0) : Type 0 where
  pub reached : (k : ℕ) → known k → IsReached inside s t k
  pub values : (v : Value) (k : ℕ) → Contains (own_values inside s.funcs t) v → ValueLeadsTo s.segments v k → known k
  pub globals : (a : ℕ) (g : GlobalInst) (k : ℕ) → IsOwnGlobal inside s a → slice_get s.globals a ≡ Some g → ValueLeadsTo s.segments g.value k → known k
  pub pieces : (place : ℕ) (h : Handle) (i k : ℕ) → marked place → slice_get s.segments.bytes place ≡ Some (Piece h i) → LeadsTo s.segments h k → known k

-- ---- what the code keeps

abbrev pub IsRange : ℕ → Range → Type 0
IsRange n r = (r.from ≤ r.to) × (r.to ≤ n)

-- there is a mark for each byte of each live segment, and the ranges lie among them
pub record IsOver (m : Memory) (c : State) : Type 0 where
  pub sound : IsSound m
  pub long : length c.marks ≤ length m.bytes
  pub covers : EndBelow m.live (length c.marks)
  pub todo : All (IsRange (length c.marks)) c.todo

-- how many turns are left at most
abbrev pub rank : State → ℕ
rank c = (length c.marks - trues c.marks) + length c.todo

-- From a state, where a range is being looked at, it came to another one.
pub record Advances (m : Memory) (c : State) (from to : ℕ) (c' : State) (from' to' : ℕ) : Type 0 where
  pub over : IsOver m c'
  pub keeps : (inside : ℕ → Bool) (s : Store) (t : Thread) → s.segments ≡ m → IsClosing inside s t (IsMarked c.marks) (IsKnown c from to) → IsClosing inside s t (IsMarked c'.marks) (IsKnown c' from' to')
  pub lower : rank c' ≤ rank c
  pub same : length c'.marks ≡ length c.marks

-- a range is added, if there is one, unless it is there
abbrev pub Adds : Option Range → List Range → List Range → Type 0
Adds None todo todo' = todo' ≡ todo
Adds (Some r) todo todo' = (todo' ≡ todo ++ r ∷ []) ⊎ ((todo' ≡ todo) × Contains todo r)

-- that of the handle of a piece
abbrev pub AddsHeld : List Live → Option Handle → List Range → List Range → Type 0
AddsHeld live None todo todo' = todo' ≡ todo
AddsHeld live (Some h) todo todo' = Adds (range_of live h) todo todo'

-- the ranges of these values are added, and nothing else
pub record Gathers (live : List Live) (vs : List Value) (c c' : State) : Type 0 where
  pub marks : c'.marks ≡ c.marks
  pub kept : (r : Range) → Contains c.todo r → Contains c'.todo r
  pub from : (r : Range) → Contains c'.todo r → Contains c.todo r ⊎ ((v : Value) × Contains vs v × (value_range live v ≡ Some r))
  pub all : (v : Value) (r : Range) → Contains vs v → value_range live v ≡ Some r → Contains c'.todo r

-- the live segment with so many older ones has an address that is marked
abbrev pub HasMark : List Bool → List Live → ℕ → Type 0
HasMark marks live i = (s : Live) × (k : ℕ) × (slice_get live i ≡ Some s) × (s.base ≤ k) × (k < s.base + s.size) × IsMarked marks k
