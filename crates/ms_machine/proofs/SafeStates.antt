-- What ties the monitor's state to the segment memory, before and after an event.
use Rattle.std.proofs.Common.{◌≡◌, ℕ, ◌+◌, [], Option, None, length, refl}
use Rattle.std.specs.List.{Contains}
use Rattle.ms_event.specs.declared.event.Event.{Event}
use Rattle.ms_event.specs.Monitor.{AcceptsFrom, Shade, State, after_all, shade_of}
use Rattle.ms_handle.specs.declared.handle.Handle.{Handle}
use Rattle.ms_handle.specs.declared.handle.Handle.TheVariants as handles
use Rattle.ms_linear.specs.declared.value.Value.{Value}
use Rattle.ms_linear.specs.declared.value.Value.TheVariants as values
use Rattle.ms_segment.specs.Memory.{Memory}
use Rattle.ms_machine.specs.Running.{with_event}
use Rattle.ms_machine.specs.refinement.Safety.{IsMonitored, Knows, KnowsHandle}

-- ---- what is known stays known

pub record Grows (state state' : State) : Type 0 where
  pub used : (colour : ℕ) → Contains state.used colour → Contains state'.used colour
  pub shades : (shade : Shade) → Contains state.shades shade → Contains state'.shades shade

pub grows-refl : (state : State) → Grows state state
grows-refl state = record { used = λ colour has. has; shades = λ shade has. has }

pub handle_grows : (state state' : State) → Grows state state' → (h : Handle) → KnowsHandle state h → KnowsHandle state' h
handle_grows state state' grows handles.Null known = tt
handle_grows state state' grows handles.Broken known = tt
handle_grows state state' grows (handles.Good sealed id base size offset) known =
    (grows.used id known.0, grows.shades (shade_of sealed id base (base + size)) known.1)

pub value_grows : (state state' : State) → Grows state state' → (v : Value) → Knows state v → Knows state' v
value_grows state state' grows (values.I32 n) known = tt
value_grows state state' grows (values.I64 n) known = tt
value_grows state state' grows (values.Handle h) known = handle_grows state state' grows h known

-- ---- what follows in a state, of which the segment memory is m

-- the event, if there is one, may come next; and the memory afterwards is that of the state after it
pub record Follows (state : State) (m : Memory) (event : Option Event) (m' : Memory) : Type 0 where
  pub may : AcceptsFrom (length m.bytes) state (with_event event [])
  pub monitored : IsMonitored (after_all state (with_event event [])) m'
  pub grows : Grows state (after_all state (with_event event []))
  pub capacity : length m'.bytes ≡ length m.bytes

pub follows-none : (state : State) (m : Memory) → IsMonitored state m → Follows state m None m
follows-none state m monitored = record { may = tt; monitored = monitored; grows = grows-refl state; capacity = refl }
