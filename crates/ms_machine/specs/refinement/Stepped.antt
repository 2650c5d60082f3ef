-- What a step answers, against what it does.
use Rattle.std.specs.Prelude.{◌≡◌, ◌≢◌, ℕ, Bool, true, false, List, [], ◌∷◌, slice_get, Option, Some, None}
use Rattle.ms_event.specs.declared.event.Event.{Event}
use Rattle.ms_outside.specs.Faults.{CountsFault}
use Rattle.ms_outside.specs.Sink.{Puts}
use Rattle.ms_outside.specs.refinement.Source.{GivesByte, Takes}
use Rattle.ms_outside.specs.declared.sink.Put.TheVariants as puts
use Rattle.ms_outside.specs.declared.source.Got.{Got}
use Rattle.ms_outside.specs.declared.source.Got.TheVariants as gots
use Rattle.ms_task.specs.Control.{exited as exited_thread}
use Rattle.ms_task.specs.Thread.{Thread}
use Rattle.ms_machine.specs.Moves.{Goes, IsPutting, IsTaking, Move, Trap}
use Rattle.ms_machine.specs.Store.{Store}
use Rattle.ms_machine.specs.declared.stepped.Stepped.{Stepped}
use Rattle.ms_machine.specs.declared.stepped.Stepped.TheVariants as answers

-- ---- the outside, told or not

-- the answer of a take that gave this byte, or the end
abbrev pub got_of : Option ℕ → Got
got_of None = gots.End
got_of (Some b) = gots.Byte b

abbrev pub InputAfter : (took : Bool) → (got : Option ℕ) → (left left' : Option (List ℕ)) → Type 0
InputAfter false got left left' = left' ≡ left
InputAfter true got left left' = Takes (got_of got) left left' × GivesByte (got_of got)

abbrev pub OutAfter : (put : Option ℕ) → (held held' : Option (List ℕ)) → Type 0
OutAfter None held held' = held' ≡ held
OutAfter (Some b) held held' = Puts puts.Done (b ∷ []) held held'

-- It went on so, for what the take gave.
pub record Went (moves : Option ℕ → Move) (event : Option Event) (s' : Store) (t' : Thread) (left left' held held' : Option (List ℕ)) : Type 0 where
  pub got : Option ℕ
  pub took : Bool
  pub put : Option ℕ
  pub is : moves got ≡ Goes s' t' took put event
  pub input : InputAfter took got left left'
  pub out : OutAfter put held held'

-- ---- the answers

-- The answer tells the step, from a store and a thread to a store and a thread, from an input and an output to an input and
-- an output. A trap changes nothing. After a fault of the outside, and where memory ran out, the store is as before, and
-- nothing is said of the thread; the output then has the byte of this step at most, and the input is as before.
abbrev pub DoesStep : Stepped → (moves : Option ℕ → Move) → Store → Thread → Store → Thread → (left left' held held' : Option (List ℕ)) → Type 0
DoesStep (answers.On event) m s t s' t' left left' held held' = Went m event s' t' left left' held held' × (t'.work ≢ [])
DoesStep (answers.Ended value event) m s t s' t' left left' held held' = Went m event s' t' left left' held held' × (t'.work ≡ []) × (value ≡ slice_get t'.operands 0)
DoesStep (answers.Trap kind) m s t s' t' left left' held held' = ((got : Option ℕ) → m got ≡ Trap kind) × (s' ≡ s) × (t' ≡ t) × (left' ≡ left) × (held' ≡ held)
DoesStep answers.ReadFault m s t s' t' left left' held held' = ((got : Option ℕ) → IsTaking (m got)) × (s' ≡ s) × Takes gots.Failed left left' × (held' ≡ held)
DoesStep answers.WriteFault m s t s' t' left left' held held' = (byte : ℕ) × ((got : Option ℕ) → IsPutting byte (m got)) × (s' ≡ s) × (left' ≡ left) × Puts puts.Failed (byte ∷ []) held held'
DoesStep answers.Memory m s t s' t' left left' held held' = (s' ≡ s) × (left' ≡ left) × (held' ≡ held)

-- the count of faults of the input after an answer, and that of the output
abbrev pub CountsInput : Stepped → (before after : ℕ) → Type 0
CountsInput answers.ReadFault before after = CountsFault before after
CountsInput _ before after = after ≡ before

abbrev pub CountsOut : Stepped → (before after : ℕ) → Type 0
CountsOut answers.WriteFault before after = CountsFault before after
CountsOut _ before after = after ≡ before

-- the task has ended, or may go on, or was stopped by a trap
abbrev pub IsWell : Stepped → Type 0
IsWell answers.ReadFault = ⊥
IsWell answers.WriteFault = ⊥
IsWell answers.Memory = ⊥
IsWell _ = Unit {0}

-- what an answer tells of the segment memory
abbrev pub event_of : Stepped → Option Event
event_of (answers.On event) = event
event_of (answers.Ended value event) = event
event_of _ = None

-- ---- the end of a step

-- the blocks and calls at their ends were exited
abbrev pub DoesExit : Stepped → Thread → Thread → Type 0
DoesExit (answers.On event) t t' = (t' ≡ exited_thread t) × (t'.work ≢ []) × (event ≡ None)
DoesExit (answers.Ended value event) t t' = (t' ≡ exited_thread t) × (t'.work ≡ []) × (value ≡ slice_get t'.operands 0) × (event ≡ None)
DoesExit _ t t' = ⊥
