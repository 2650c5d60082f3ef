-- What is kept of a task that nothing joins with the others: it does in the run of a job what it does in that of the job with `only N`.
use Rattle.std.specs.Prelude.{◌≡◌, ◌<◌, ℕ, List, length, Option, Some, None, Ok}
use Rattle.ms_apart.specs.Runs.{IsQuiet, OwnAlike}
use Rattle.ms_job.specs.declared.job.Job.{Job}
use Rattle.ms_machine.specs.Crews.{Crew, Input, Run, run_of}
use Rattle.ms_machine.specs.Linked.{linked}
use Rattle.ms_machine.specs.Store.{Store}
use Rattle.ms_run.specs.Answers.{Finds}
use Rattle.ms_run.specs.Jobs.{RunOfJob}
use Rattle.ms_tasks.specs.Joined.{IsApart}
use Rattle.ms_tasks.specs.Tasks.{AreAddresses, IsCrewOf}
use Rattle.ms_tasks.specs.Alone.{alone}

-- The task of this number is apart from all others in the crew that a job begins with, which names no task alone. By what this run records,
-- and by what that does in which the entries of the other tasks name none, no other task took input, be it a byte or the end, and no segment
-- was refused to the task.
pub record IsUndisturbed (Has : Finds) (given : Input) (job : Job) (run : Run) (of_job : RunOfJob Has given job run) (n : ℕ) : Type 0 where
  pub store : Store
  pub linked_is : linked of_job.modules job.memory ≡ Ok store
  pub crew : Crew
  pub is_crew : IsCrewOf store job.tasks crew
  pub addresses : List ℕ
  pub are_addresses : AreAddresses store job.tasks addresses
  pub apart : IsApart store addresses n
  pub there : n < length job.tasks
  pub all : job.only ≡ None
  pub quiet : IsQuiet n run.deeds
  pub quiet_alone : IsQuiet n (run_of (alone n (length job.tasks) of_job.entries) crew given).deeds

-- The job with `only N` has a run over the same input, and the task's own bytes, events and end are there what they are in this run; where
-- another task trapped in this one, its bytes and events are a front of those.
pub record RanAlone (Has : Finds) (given : Input) (job : Job) (n : ℕ) (run : Run) : Type 0 where
  pub other : Run
  pub of_job : RunOfJob Has given (record job { only = Some n }) other
  pub alike : OwnAlike n run other
