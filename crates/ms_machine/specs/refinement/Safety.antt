-- What ties every handle to the colour monitor's state: the memory safety of a store and its threads after some events.
use Rattle.std.specs.Prelude.{◌≡◌, ◌↔◌, ◌<◌, ◌≤◌, ◌+◌, ℕ, false, List, length, map, All, Contains}
use Rattle.ms_event.specs.declared.event.Event.{Event}
use Rattle.ms_event.specs.declared.event.Event.TheVariants.{Alloc}
use Rattle.ms_event.specs.Monitor.{Accepts, Paint, Shade, State, after_all, nothing_yet, shade_of}
use Rattle.ms_handle.specs.declared.handle.Handle.{Handle}
use Rattle.ms_handle.specs.declared.handle.Handle.TheVariants as handles
use Rattle.ms_linear.specs.declared.value.Value.{Value}
use Rattle.ms_linear.specs.declared.value.Value.TheVariants as values
use Rattle.ms_live.specs.declared.gaps.Live.{Live}
use Rattle.ms_segment.specs.Memory.{Memory}
use Rattle.ms_tagged.specs.Bytes.{Piece}
use Rattle.ms_task.specs.Thread.{Thread}
use Rattle.ms_machine.specs.refinement.Holding.{EachGlobal, ThreadHolds}
use Rattle.ms_machine.specs.Store.{Store}

-- A good handle has a used colour, and its bound is a known shade of that colour, sealed where the handle is sealed and else writable.
abbrev pub KnowsHandle : State → Handle → Type 0
KnowsHandle m (handles.Good sealed id base size offset) = Contains m.used id × Contains m.shades (shade_of sealed id base (base + size))
KnowsHandle m h = Unit {0}

abbrev pub Knows : State → Value → Type 0
Knows m (values.Handle h) = KnowsHandle m h
Knows m v = Unit {0}

-- the address lies in a live segment, at this place of it
abbrev pub IsPaintOf : Memory → Paint → Type 0
IsPaintOf m p = (s : Live) × Contains m.live s × (p.colour ≡ s.id) × (p.place < s.size) × (p.address ≡ s.base + p.place)

-- the monitor's state is that of the segment memory
pub record IsMonitored (state : State) (m : Memory) : Type 0 where
  pub live : state.live ≡ map (λ (s : Live). s.id) m.live
  pub painted : (p : Paint) → Contains state.painted p ↔ IsPaintOf m p
  pub roots : All (λ (s : Live). Contains state.shades (shade_of false s.id 0 s.size)) m.live
  pub used : (colour : ℕ) → Contains state.used colour ↔ ((1 ≤ colour) × (colour ≤ m.made))
  pub pieces : (h : Handle) (i : ℕ) → Contains m.bytes (Piece h i) → KnowsHandle state h

-- the shade lies within the size at the making of its colour
abbrev pub IsWithinSegment : List Event → Shade → Type 0
IsWithinSegment events shade = (address size : ℕ) × Contains events (Alloc shade.colour address size) × (shade.hi ≤ size)

-- After these events, which the monitor accepts, each handle of the store and of the threads is known to it.
pub record Sound (events : List Event) (s : Store) (ts : List Thread) : Type 0 where
  pub accepted : Accepts (length s.segments.bytes) events
  pub sizes : All (IsWithinSegment events) (after_all nothing_yet events).shades
  pub monitored : IsMonitored (after_all nothing_yet events) s.segments
  pub globals : EachGlobal (Knows (after_all nothing_yet events)) s.globals
  pub threads : All (ThreadHolds (Knows (after_all nothing_yet events))) ts
