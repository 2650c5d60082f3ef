-- The run of which an answer tells that came to an end: what was run, what was told of it, and that it was safe.
use Rattle.std.specs.Prelude.{◌≡◌, ◌≤◌, Bool, true, false, filter, length, Option}
use Rattle.ms_command_line.specs.Commands as options
use Rattle.ms_event.specs.Monitor.{Accepts}
use Rattle.ms_event.specs.declared.event.Event.{Event}
use Rattle.ms_event.specs.declared.event.Event.TheVariants.{Read, Write}
use Rattle.ms_job.specs.declared.job.Job.{Job}
use Rattle.ms_machine.specs.Crews.{Input, Run, events_of}
use Rattle.ms_machine.specs.Running.{MayGive}
use Rattle.ms_outside.specs.Files.{Files}
use Rattle.ms_run.specs.Answers.{Answer}
use Rattle.ms_run.specs.Executions.{TellsOf}
use Rattle.ms_run.specs.Flows.{RunsWhole}
use Rattle.ms_run.specs.Jobs.{RunOfJob}
use Rattle.ms_run.specs.Observed.{Flow, Report, Shelved}
use Rattle.ms_run.specs.Reporting.{Grows, HasWritten, Holds}
use Rattle.ms_run.specs.Telling.{inquiry_of}
use Rattle.ms_run.specs.declared.status.Status.{Status}
use Rattle.ms_run.specs.declared.status.Status.TheVariants.{Done, OutOfBudget, Trapped}

-- the statuses of such answers
abbrev pub IsEnd : Status → Type 0
IsEnd Done = Unit {0}
IsEnd Trapped = Unit {0}
IsEnd OutOfBudget = Unit {0}
IsEnd _ = ⊥

-- bytes of the segment memory are read or written
abbrev pub is_access : Event → Bool
is_access (Read sealed id lo hi address width) = true
is_access (Write id lo hi address width) = true
is_access _ = false

-- the modules and the schedule of the job are read from these files
pub record RanSafely (files : Option Files) (s : Shelved) (r : Report) (f : Flow) (job : Job) (status : Status) : Type 0 where
  -- the run of the job's modules and tasks by its schedule, over what the input gave
  pub given : Input
  pub run : Run
  pub may : MayGive f.left_old given
  pub of_job : RunOfJob (Holds files) given job run
  -- the status, the report and the file of the trace are those of its end, its last store and its events
  pub answer : Answer
  pub tells : TellsOf (inquiry_of job) run answer
  pub status_is : status ≡ answer.status
  pub grown : Grows r answer.report
  pub written : HasWritten s answer.file
  -- the input has lost exactly what it takes, and the output has got exactly what it puts
  pub flowed : RunsWhole given f run
  -- its segment memory has as many bytes as one may have
  pub small : job.memory ≤ options.memory.most
  -- its allocations, slices, reads, writes and frees are a trace that the colour monitor accepts
  pub accepted : Accepts job.memory (events_of run.deeds)
  -- and as many of them are reads and writes as the segment memory that the run leaves has counted accesses
  pub counted : run.crew.store.segments.accesses ≡ length (filter is_access (events_of run.deeds))
