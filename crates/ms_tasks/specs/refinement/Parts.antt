-- Parts of runs: how all runs from one state of the outside come to those from a later one, and what code answers of them.
use Rattle.std.specs.Prelude.{◌≡◌, ◌≢◌, ℕ, zero, suc, List, [], ◌∷◌, Option}
use Rattle.ms_machine.specs.Crews.{Crew, Deeds, Input, Run, Trap, Whose, behind, bytes_of, ends, moved, run_entries}
use Rattle.ms_machine.specs.Moves.{move_of}
use Rattle.ms_machine.specs.Running.{IsLeft, MayGive, TellsAlike}
use Rattle.ms_machine.specs.Store.{Store}
use Rattle.ms_outside.specs.Faults.{CountsFault}
use Rattle.ms_outside.specs.Sink.{Puts}
use Rattle.ms_outside.specs.declared.sink.Put.TheVariants as puts
use Rattle.ms_task.specs.Thread.{Thread}
use Rattle.ms_tasks.specs.refinement.Logs.{Log, logged}
use Rattle.ms_tasks.specs.refinement.Outside.{HasBegun}
use Rattle.ms_tasks.specs.refinement.Steppers.{whose_of}
use Rattle.ms_tasks.specs.declared.burst.Halt.{Halt}
use Rattle.ms_tasks.specs.declared.burst.Halt.TheVariants as halts

-- The run is, behind what has happened, the other one: whatever the source may still give.
pub record Comes (left left' held held' : Option (List ℕ)) (deeds : Deeds) (run next : Input → Run) : Type 0 where
  pub alike : TellsAlike left left'
  pub out : Puts puts.Done (bytes_of deeds) held held'
  pub from : (rest : Input) → MayGive left' rest → (input : Input) × MayGive left input × IsLeft rest input × (run input ≡ behind deeds (next rest))

-- the same, and the log has what has happened
pub record ComesTo (left left' held held' : Option (List ℕ)) (old new : Log) (run next : Input → Run) : Type 0 where
  pub deeds : Deeds
  pub comes : Comes left left' held held' deeds run next
  pub log : new ≡ logged deeds old

-- What came of a run by why it was halted: it comes to the one that is there where a task has ended, or where the steps are
-- used up, or to the trap, with this crew; or only a part of it was run.
abbrev pub HaltsBy : Halt → (run ended paused : Input → Run) → Crew → (left left' held held' : Option (List ℕ)) → (old new : Log) → Type 0
HaltsBy halts.Ended run ended paused c left left' held held' old new = ComesTo left left' held held' old new run ended
HaltsBy halts.Paused run ended paused c left left' held held' old new = ComesTo left left' held held' old new run paused
HaltsBy (halts.Trap whose kind) run ended paused c left left' held held' old new = ComesTo left left' held held' old new run (ends (Trap (whose_of whose) kind) c)
HaltsBy halts.ReadFault run ended paused c left left' held held' old new = (given : Input) × HasBegun left left' held held' old new given (run given)
HaltsBy halts.WriteFault run ended paused c left left' held held' old new = (given : Input) × HasBegun left left' held held' old new given (run given)
HaltsBy halts.Memory run ended paused c left left' held held' old new = (given : Input) × HasBegun left left' held held' old new given (run given)

-- nothing outside failed, and memory didn't run out
abbrev pub IsWell : Halt → Type 0
IsWell halts.ReadFault = ⊥
IsWell halts.WriteFault = ⊥
IsWell halts.Memory = ⊥
IsWell _ = Unit {0}

-- the count of faults of the input, and that of the output
abbrev pub CountsInput : Halt → (before after : ℕ) → Type 0
CountsInput halts.ReadFault before after = CountsFault before after
CountsInput _ before after = after ≡ before

abbrev pub CountsOut : Halt → (before after : ℕ) → Type 0
CountsOut halts.WriteFault before after = CountsFault before after
CountsOut _ before after = after ≡ before

-- Each of the first entries, so many, is a step of this thread, and the crew is then the next one.
abbrev pub IsRow : Whose → (next : Store → Thread → Crew) → (most : ℕ) → (entries : List ℕ) → Type 0
IsRow whose next zero ks = Unit {0}
IsRow whose next (suc n) [] = ⊥
IsRow whose next (suc n) (k ∷ ks) =
    ((s : Store) (t : Thread) (input : Input) → t.work ≢ [] → run_entries (k ∷ ks) (next s t) input ≡ moved whose (move_of s t input) (next s t) input next (run_entries ks)) × IsRow whose next n ks
