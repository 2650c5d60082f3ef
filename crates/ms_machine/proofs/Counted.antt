-- An instruction on segments whose event is only counted.
use Rattle.std.proofs.Common.{List, Option, Result, Ok, Err}
use Rattle.ms_event.specs.declared.event.Event.{Event}
use Rattle.ms_event.specs.declared.tally.Tally.{Tally}
use Rattle.ms_linear.specs.declared.value.Value.{Value}
use Rattle.ms_segment.specs.Memory.{Memory}
use Rattle.ms_machine.specs.Segments.{Effect}
use Rattle.ms_machine.specs.declared.fault.Fault.{Fault}
use Rattle.ms_machine.specs.declared.fault.Fault.TheVariants as faults
use Rattle.ms_machine.specs.declared.segment.Told.{Told}
use Rattle.ms_machine.specs.declared.segment.Told.TheVariants as told
use Rattle.ms_machine.specs.refinement.Doing.{CountsTold, DoesCounted, DoesInSegments}

module _ (effect : Effect) (vs vs' : List Value) (m m' : Memory) (c c' : Tally) where
  pub counted_does : (outcome : Result (Option Event) Fault) (r : Told) → DoesInSegments effect vs vs' m m' outcome → CountsTold outcome c c' r → DoesCounted effect vs vs' m m' c c' r
  counted_does (Ok event) told.Done does count = (event, does, count)
  counted_does (Ok event) told.Not does count = absurd count
  counted_does (Ok event) told.Memory does count = absurd count
  counted_does (Err (faults.Trap kind)) told.Done does count = absurd count
  counted_does (Err (faults.Trap kind)) told.Not does count = (does.1, does.2, count)
  counted_does (Err (faults.Trap kind)) told.Memory does count = absurd count
  counted_does (Err (faults.Host h)) r does count = absurd does
  counted_does (Err faults.Memory) told.Done does count = absurd count
  counted_does (Err faults.Memory) told.Not does count = absurd count
  counted_does (Err faults.Memory) told.Memory does count = tt
