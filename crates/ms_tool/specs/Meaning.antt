-- What is kept of a run that has come to an end: both halves of the theorem, of the run that the answer tells of, and that tasks which
-- nothing joins don't matter to one another.
use Rattle.std.specs.Prelude.{◌≡◌, ℕ, List, [], ◌∷◌, codes, Option, None}
use Rattle.c_typed.specs.Tree.{Typed}
use Rattle.c_runs.specs.Correct.{MeansRun}
use Rattle.ms_job.specs.declared.job.Job.{Job}
use Rattle.ms_machine.specs.Crews.{Input, Run}
use Rattle.ms_machine.specs.Running.{AreBytes}
use Rattle.ms_outside.specs.Files.{Files}
use Rattle.ms_run.specs.Answers.{Finds, HasBytes}
use Rattle.ms_run.specs.Loading.{Source, form_of}
use Rattle.ms_run.specs.Observed.{Flow, Report, Shelved}
use Rattle.ms_run.specs.Reporting.{Holds}
use Rattle.ms_run.specs.SafeRuns.{RanSafely}
use Rattle.ms_run.specs.Source.{IsUnit}
use Rattle.ms_run.specs.declared.status.Status.{Status}
use Rattle.ms_tool.specs.Isolation.{IsUndisturbed, RanAlone}

-- the job is a whole program of C: one module, of this file, whose `main` is the one task, by turns, which no line leaves out
pub record IsProgram (job : Job) (name file : List ℕ) : Type 0 where
  pub module' : job.modules ≡ (name, file) ∷ []
  pub source : form_of file ≡ Source
  pub task : job.tasks ≡ (0, codes "main") ∷ []
  pub in_turns : job.schedule ≡ None
  pub all : job.only ≡ None

-- the run does what the file's unit means, over what the input gave, where that are bytes
pub record RanAsMeant (Has : Finds) (file : List ℕ) (budget : ℕ) (given : Input) (run : Run) : Type 0 where
  pub bytes : List ℕ
  pub found : HasBytes Has file bytes
  pub unit : Typed
  pub is_unit : IsUnit bytes unit
  pub means : AreBytes given → MeansRun unit given budget run

-- of a job whose modules and schedule are read from these files
pub record KeepsRun (files : Option Files) (s : Shelved) (r : Report) (f : Flow) (job : Job) (status : Status) : Type 0 where
  -- Memory safety: the run is one of all modules that link, by the job's tasks, schedule and budget; status, report, the trace's file,
  -- input and output are its own; and its allocations, slices, reads, writes and frees are a trace that the colour monitor accepts.
  pub safe : RanSafely files s r f job status
  -- Meaning: that run of a whole program of C has the output and the end that C means.
  pub means : (name file : List ℕ) → IsProgram job name file → RanAsMeant (Holds files) file job.budget safe.given safe.run
  -- Isolation: a task that is apart from all others does in that run what it does in that of the same job with `only N`.
  pub isolated : (n : ℕ) → IsUndisturbed (Holds files) safe.given job safe.run safe.of_job n → RanAlone (Holds files) safe.given job n safe.run
