-- What was told of the end of a run.
use Rattle.std.specs.Prelude.{◌≡◌, ◌<◌, ℕ, List, ◌++◌, All, slice_get}
use Rattle.ms_tasks.specs.States.{in_crew}
use Rattle.ms_tasks.specs.refinement.Steppers.{by_stop}
use Rattle.ms_tasks.specs.declared.state.TaskState.{TaskState}
use Rattle.ms_tasks.specs.refinement.Logs.{Log}
use Rattle.ms_tasks.specs.refinement.Making.{Addressed}
use Rattle.ms_run.specs.Observed.{Report, Shelved}
use Rattle.ms_run.specs.Reached.{AreReached}
use Rattle.ms_run.specs.Reporting.{Delivers, IsKept, KeepsFiles}
use Rattle.ms_run.specs.Standing.{AreStanding}
use Rattle.ms_run.specs.Telling.{dumped, traced}
use Rattle.ms_run.specs.declared.status.Status.{Status}
use Rattle.ms_run.specs.declared.status.Status.TheVariants.{OutOfMemory}
use Rattle.ms_run.specs.declared.telling.Telling.{Telling}
use Rattle.ms_run.specs.refinement.Counts.{logged_lines}

-- each set that is asked of reach stands behind the number of one of so many tasks
abbrev pub AreTasks : (tasks : ℕ) → List (ℕ × List ℕ) → Type 0
AreTasks tasks asked = All (λ set. set.0 < tasks) asked

-- how the task of a number stands, by the step that stopped the last run and by what is left of the task
abbrev pub state_in : Addressed → ℕ → TaskState
state_in c n = by_stop n c.trapped (in_crew (slice_get c.tasks n))

-- the lines of what is reached, and those of how each task stands
abbrev pub AreListed : Telling → Addressed → List ℕ → Type 0
AreListed telling c left =
    (reached : List ℕ) × (standing : List ℕ) × AreReached c.crew 0 telling.reach reached × AreStanding c.store c.addresses (state_in c) telling.each standing
    × (left ≡ reached ++ standing)

-- The report of a run with these lines of its end, and these of what it left.
abbrev pub whole_report : Telling → Addressed → Log → (lines left : List ℕ) → List ℕ
whole_report telling c log lines left = logged_lines telling log ++ (lines ++ (dumped telling c.store.segments ++ left))

-- All of it was put, behind the file of the events; or nothing, for want of memory.
pub data IsTold (telling : Telling) (c : Addressed) (log : Log) (status : Status) (lines : List ℕ) (s : Shelved) (r : Report) : Status → Type 0 where
  told : {result : Status} (left : List ℕ) → AreListed telling c left
      → Delivers (record { status = status; report = whole_report telling c log lines left; file = traced telling log.trace.events }) s r result
      → IsTold telling c log status lines s r result
  untold : KeepsFiles s → IsKept r → IsTold telling c log status lines s r OutOfMemory
