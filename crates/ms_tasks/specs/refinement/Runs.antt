-- What a run of a crew answers.
use Rattle.std.specs.Prelude.{◌≡◌, ℕ, List, Option}
use Rattle.ms_machine.specs.Crews.{Crew, Input, OutOfBudget, Results, Run, Trap, begun, results}
use Rattle.ms_outside.specs.Faults.{CountsFault}
use Rattle.ms_tasks.specs.refinement.Logs.{Log}
use Rattle.ms_tasks.specs.refinement.Outside.{HasBegun, HasRun}
use Rattle.ms_tasks.specs.refinement.Steppers.{whose_of}
use Rattle.ms_tasks.specs.declared.burst.Halt.{Halt}
use Rattle.ms_tasks.specs.declared.burst.Halt.TheVariants as halts
use Rattle.ms_tasks.specs.declared.ran.Ran.{Ran}
use Rattle.ms_tasks.specs.declared.ran.Ran.TheVariants as answers

-- The answer, and the store, the start functions and the tasks that are left: start functions that have ended may still
-- stand in front. After a fault of the outside, and where memory ran out, nothing is said of the crew.
abbrev pub DoesRun : Ran → Crew → (left left' held held' : Option (List ℕ)) → (old new : Log) → (given : Input) → Run → Type 0
DoesRun answers.Results c left left' held held' old new given r = (r.end ≡ Results (results c.tasks)) × (r.crew ≡ begun c) × HasRun left left' held held' old new given r
DoesRun (answers.Trap whose kind) c left left' held held' old new given r = (r.end ≡ Trap (whose_of whose) kind) × (r.crew ≡ begun c) × HasRun left left' held held' old new given r
DoesRun answers.Budget c left left' held held' old new given r = (r.end ≡ OutOfBudget) × (r.crew ≡ begun c) × HasRun left left' held held' old new given r
DoesRun answers.ReadFault c left left' held held' old new given r = HasBegun left left' held held' old new given r
DoesRun answers.WriteFault c left left' held held' old new given r = HasBegun left left' held held' old new given r
DoesRun answers.Memory c left left' held held' old new given r = HasBegun left left' held held' old new given r

-- nothing outside failed, and memory didn't run out
abbrev pub IsOver : Ran → Type 0
IsOver answers.ReadFault = ⊥
IsOver answers.WriteFault = ⊥
IsOver answers.Memory = ⊥
IsOver _ = Unit {0}

-- the count of faults of the input, and that of the output
abbrev pub CountsInput : Ran → (before after : ℕ) → Type 0
CountsInput answers.ReadFault before after = CountsFault before after
CountsInput _ before after = after ≡ before

abbrev pub CountsOut : Ran → (before after : ℕ) → Type 0
CountsOut answers.WriteFault before after = CountsFault before after
CountsOut _ before after = after ≡ before

-- what the halt of all is called
abbrev pub answer_of : Halt → Ran
answer_of halts.Ended = answers.Results
answer_of halts.Paused = answers.Budget
answer_of (halts.Trap whose kind) = answers.Trap whose kind
answer_of halts.ReadFault = answers.ReadFault
answer_of halts.WriteFault = answers.WriteFault
answer_of halts.Memory = answers.Memory
