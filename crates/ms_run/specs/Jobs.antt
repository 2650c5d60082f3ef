-- What `exec` and `run` answer: the files of a job are read in order, their modules are linked, and its tasks are run.
use Rattle.std.specs.Prelude.{◌≡◌, ℕ, suc, false, List, [], ◌∷◌, codes, length, take, Option, Some, None, Ok, Err}
use Rattle.ms_job.specs.Jobs.{job_in, most_turns}
use Rattle.ms_job.specs.Schedules.{schedule_in}
use Rattle.ms_job.specs.declared.fault.JobFault.{JobFault}
use Rattle.ms_job.specs.declared.fault.SchedFault.TheVariants.{At}
use Rattle.ms_job.specs.declared.job.Job.{Job}
use Rattle.ms_module.specs.declared.module.Module.{Module}
use Rattle.ms_machine.specs.Crews.{Input, Run, turns_from}
use Rattle.ms_tasks.specs.Alone.{by_only}
use Rattle.ms_run.specs.Answers.{Answer, Found, HasBytes, HasModule, Unfound, Unloaded, says}
use Rattle.ms_run.specs.Executions.{AnswersAs, Ran, execution}
use Rattle.ms_run.specs.Lines.{job_line, module_word, schedule_line}
use Rattle.ms_run.specs.Telling.{inquiry_of}
use Rattle.ms_run.specs.declared.gathering.Naming.{Naming}
use Rattle.ms_run.specs.declared.gathering.Naming.TheVariants.{Numbered, Only}
use Rattle.ms_run.specs.declared.status.Status.TheVariants.{Refused}

-- ---- modules

-- all of these names and files have modules
pub data AllLoaded (Has : List ℕ → Found → Type 0) : (files : List (List ℕ × List ℕ)) → (modules : List (List ℕ × Module)) → Type 0 where
  no_more : AllLoaded Has [] []
  one_more : (name file : List ℕ) (m : Module) {files : List (List ℕ × List ℕ)} {modules : List (List ℕ × Module)} → HasModule Has file m → AllLoaded Has files modules → AllLoaded Has ((name, file) ∷ files) ((name, m) ∷ modules)

-- what stands before the words of the refusal of the module of a number: `exec` has one module, and `run` tells the number
abbrev pub what_of : Naming → (number : ℕ) → List ℕ
what_of Only number = []
what_of Numbered number = module_word number

-- the first file without a module; they are numbered from this one on
pub data FirstUnloaded (Has : List ℕ → Found → Type 0) (naming : Naming) : (number : ℕ) → (files : List (List ℕ × List ℕ)) → Answer → Type 0 where
  here : (number : ℕ) (name file : List ℕ) (files : List (List ℕ × List ℕ)) {a : Answer} → Unloaded Has (what_of naming number) file a
      → FirstUnloaded Has naming number ((name, file) ∷ files) a
  later : (number : ℕ) (name file : List ℕ) (m : Module) (files : List (List ℕ × List ℕ)) {a : Answer} → HasModule Has file m
      → FirstUnloaded Has naming (suc number) files a → FirstUnloaded Has naming number ((name, file) ∷ files) a

-- ---- schedules

-- the file has these numbers
pub record HasNumbers (Has : List ℕ → Found → Type 0) (name : List ℕ) (numbers : List ℕ) : Type 0 where
  pub bytes : List ℕ
  pub found : HasBytes Has name bytes
  pub read : schedule_in bytes ≡ Ok numbers

-- it has none
pub data Unnumbered (Has : List ℕ → Found → Type 0) (name : List ℕ) : Answer → Type 0 where
  no_file : {a : Answer} → Unfound Has name a → Unnumbered Has name a
  no_number : (bytes : List ℕ) (at : ℕ) → HasBytes Has name bytes → schedule_in bytes ≡ Err (At at) → Unnumbered Has name (says Refused (schedule_line at))

-- the entries: turns of the tasks, or the first numbers of a file, as many as the budget has; where one task is named alone, those of
-- all others name none
pub data HasEntries (Has : List ℕ → Found → Type 0) (job : Job) : List ℕ → Type 0 where
  in_turns : job.schedule ≡ None → HasEntries Has job (by_only job.only (length job.tasks) (turns_from job.turns (length job.tasks) 0 job.budget))
  listed : (name numbers : List ℕ) → job.schedule ≡ Some name → HasNumbers Has name numbers → HasEntries Has job (by_only job.only (length job.tasks) (take job.budget numbers))

-- there is a file, and it has none
pub data Unscheduled (Has : List ℕ → Found → Type 0) (job : Job) : Answer → Type 0 where
  unlisted : (name : List ℕ) {a : Answer} → job.schedule ≡ Some name → Unnumbered Has name a → Unscheduled Has job a

-- ---- jobs

-- the file has this job
abbrev pub HasJob : (List ℕ → Found → Type 0) → (name : List ℕ) → Job → Type 0
HasJob Has name job = (bytes : List ℕ) × HasBytes Has name bytes × (job_in bytes ≡ Ok job)

-- ---- the answers, and the run of which each tells, if there was one

pub data RunsJob (Has : List ℕ → Found → Type 0) (naming : Naming) (given : Input) (job : Job) : Option Run → Answer → Type 0 where
  unloaded : {a : Answer} → FirstUnloaded Has naming 0 job.modules a → RunsJob Has naming given job None a
  unscheduled : (modules : List (List ℕ × Module)) {a : Answer} → AllLoaded Has job.modules modules → Unscheduled Has job a → RunsJob Has naming given job None a
  executed : (modules : List (List ℕ × Module)) (entries : List ℕ) {ran : Option Run} {a : Answer} → AllLoaded Has job.modules modules → HasEntries Has job entries
      → AnswersAs (inquiry_of job) (execution modules job.tasks entries job.memory given) ran a → RunsJob Has naming given job ran a

-- `run`: of the file of a job
pub data RunsFile (Has : List ℕ → Found → Type 0) (given : Input) (name : List ℕ) : Option Run → Answer → Type 0 where
  no_job_file : {a : Answer} → Unfound Has name a → RunsFile Has given name None a
  no_job : (bytes : List ℕ) (fault : JobFault) → HasBytes Has name bytes → job_in bytes ≡ Err fault → RunsFile Has given name None (says Refused (job_line fault))
  job : (bytes : List ℕ) (job : Job) {ran : Option Run} {a : Answer} → HasBytes Has name bytes → job_in bytes ≡ Ok job → RunsJob Has Numbered given job ran a
      → RunsFile Has given name ran a

-- `exec`: the job of one module, whose task is its export `main`, within so many steps, with a segment memory of so many bytes;
-- a task that is alone has all entries, however long its turns are
abbrev pub exec_job : (file : List ℕ) → (budget memory : ℕ) → Job
exec_job file budget memory = record {
  modules = ([], file) ∷ [];
  tasks = (0, codes "main") ∷ [];
  turns = most_turns;
  schedule = None;
  budget = budget;
  memory = memory;
  trace = None;
  dump = false;
  reach = [];
  each = false;
  only = None;
  counts = false;
}

-- ---- the runs that such answers tell of

pub record RunOfJob (Has : List ℕ → Found → Type 0) (given : Input) (job : Job) (run : Run) : Type 0 where
  pub modules : List (List ℕ × Module)
  pub entries : List ℕ
  pub loaded : AllLoaded Has job.modules modules
  pub scheduled : HasEntries Has job entries
  pub ran : execution modules job.tasks entries job.memory given ≡ Ran run

pub record RunOfFile (Has : List ℕ → Found → Type 0) (given : Input) (name : List ℕ) (run : Run) : Type 0 where
  pub bytes : List ℕ
  pub job : Job
  pub found : HasBytes Has name bytes
  pub is_job : job_in bytes ≡ Ok job
  pub runs : RunOfJob Has given job run
