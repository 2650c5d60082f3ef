-- What a monitor answers to an event.
use Rattle.std.specs.Prelude.{◌≡◌, Result, Ok, Err}
use Rattle.ms_event.specs.Monitor.{May, State, after}
use Rattle.ms_event.specs.declared.event.Event.{Event}
use Rattle.ms_event.specs.declared.event.Event.TheVariants.{Alloc, Free, Read, Refused, Seal, Slice, Write}
use Rattle.ms_monitor.specs.refinement.Kept.{Kept}
use Rattle.ms_monitor.specs.refinement.Showing.{Shows}
use Rattle.ms_monitor.specs.declared.monitor.Verdict.{Verdict}
use Rattle.ms_monitor.specs.declared.monitor.Verdict.TheVariants.{Memory, Reject}

-- whether a monitor keeps something for the event: a colour or a shade
abbrev pub TakesMemory : Event → Type 0
TakesMemory (Alloc id addr size) = Unit {0}
TakesMemory (Refused size) = ⊥
TakesMemory (Seal id lo hi) = Unit {0}
TakesMemory (Slice sealed id lo hi lo2 hi2) = Unit {0}
TakesMemory (Read sealed id lo hi addr width) = ⊥
TakesMemory (Write id lo hi addr width) = ⊥
TakesMemory (Free id) = ⊥

-- by what is kept before and after the event, for each state that is shown before it: the event may come next, and the state
-- after it is shown then; or it may not; or it may, and there is no memory for what it makes. After an error nothing has changed
abbrev pub Judges : Kept → Kept → Event → Result Unit Verdict → Type 0
Judges old new event (Ok _) = (new.capacity ≡ old.capacity) × ((s : State) → Shows old s → May old.capacity s event × Shows new (after s event))
Judges old new event (Err Reject) = (new ≡ old) × ((s : State) → Shows old s → ¬ (May old.capacity s event))
Judges old new event (Err Memory) = (new ≡ old) × TakesMemory event × ((s : State) → Shows old s → May old.capacity s event)
