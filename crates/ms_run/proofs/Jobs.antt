-- What `exec` and `run` did, put together from its parts: reading the files of a job, and running it.
use Rattle.std.proofs.Common.{◌≡◌, ◌∙◌, ◌≤◌, ◌≢◌, ℕ, inr, List, ◌∷◌, length, map, refl, sym, ap, subst, arith}
use Rattle.std.proofs.lemmas.List.Elements.{All-nil}
use Rattle.std.specs.Prelude.{Option, Some, None, Result, Ok, Err}
use Rattle.ms_command_line.specs.Commands as options
use Rattle.ms_job.specs.refinement.Bounds.{IsBounded}
use Rattle.ms_job.specs.Jobs.{job_in}
use Rattle.ms_job.specs.refinement.Reading.{ReadsJob}
use Rattle.ms_job.specs.declared.fault.JobFault.{JobFault}
use Rattle.ms_job.specs.declared.fault.JobFault.TheVariants as job_faults
use Rattle.ms_job.specs.declared.job.Job.{Job}
use Rattle.ms_module.specs.declared.module.Module.{Module}
use Rattle.ms_outside.specs.Files.{Files}
use Rattle.ms_outside.specs.Shelf.{SameCounts}
use Rattle.ms_rules.specs.Modules.{AreDistinct}
use Rattle.ms_task.specs.Thread.{Thread}
use Rattle.ms_machine.specs.Crews.{End, Input, OutOfBudget as BudgetEnd, Results, Run, Stuck, Trap, begun}
use Rattle.ms_machine.specs.Externs.{Fault}
use Rattle.ms_machine.specs.Linked.{linked}
use Rattle.ms_machine.specs.Running.{IsLeft, MayGive}
use Rattle.ms_machine.specs.Store.{Store}
use Rattle.ms_machine.proofs.Outsides.{some_input}
use Rattle.ms_tasks.specs.refinement.Schedules.{entries_of}
use Rattle.ms_tasks.specs.Tasks.{crew_of, threads_from}
use Rattle.ms_tasks.specs.declared.schedule.Schedule.{Schedule}
use Rattle.ms_tasks.proofs.Leaving.{run_leaves}
use Rattle.ms_run.specs.Answers.{Answer, Found, Unfound, HasBytes, says}
use Rattle.ms_run.specs.Executions.{AnswersAs, EndsAs, Execution, Ran, execution, if_linked, with_threads}
use Rattle.ms_run.specs.Flows.{DidRun, Flowed, Flows, IsQuiet, IsUnrun, RunsWhole, TellsExecution, cut, delivered, end_cut, end_printed, end_unprinted, nothing_printed, quiet, ran, refused, run_printed, starved_run}
use Rattle.ms_run.specs.Jobs.{AllLoaded, FirstUnloaded, HasEntries, RunOfFile, RunOfJob, RunsFile, RunsJob, Unscheduled, exec_job, executed, job as of_job, no_job, no_job_file, no_more, one_more, unloaded, unscheduled}
use Rattle.ms_run.specs.Lines.{job_line}
use Rattle.ms_run.specs.Observed.{Flow, Report, Shelved}
use Rattle.ms_run.specs.Reporting.{Holds, IsFound, IsKept, IsUntouched, KeepsFiles, Reports, ReportsJobFault, Tells, put, printed, unprinted}
use Rattle.ms_run.specs.Telling.{Inquiry, inquiry_of}
use Rattle.ms_run.specs.declared.gathering.Naming.{Naming}
use Rattle.ms_run.specs.declared.gathering.Naming.TheVariants.{Numbered}
use Rattle.ms_run.specs.declared.status.Status.{Status}
use Rattle.ms_run.specs.declared.status.Status.TheVariants.{OutOfMemory, Refused}
use Rattle.ms_run.proofs.Ending.{of_delivers, of_reports, whole_part}
use Rattle.ms_run.proofs.Finding.{all_more, entries_more, held_found, runs_job_more, unscheduled_more}
use Rattle.ms_run.proofs.Refusals.{OfRefusals, of_first, of_unfound, of_unscheduled}
use Rattle.ms_run.proofs.Later.{execution_later, first, first_report, found_later, report_of, run_later, second, second_report, tells_later, untouched_later, whole, whole_report}

-- ---- a run takes from the front of what the input gives

pub same_run : (r s : Run) → ◌≡◌ {A = Execution} (Ran r) (Ran s) → r ≡ s
same_run r s e = cc

module _ (tasks : List (ℕ × List ℕ)) (entries : List ℕ) (given : Input) where
  threads_leave : (s : Store) (o : Result (List Thread) ℕ) (run : Run) → with_threads entries s given o ≡ Ran run → IsLeft run.input given
  threads_leave s (Err number) run e = absurd cc
  threads_leave s (Ok threads) run e = subst (λ (r : Run). IsLeft r.input given) (same_run _ run e) (run_leaves entries (begun (crew_of s threads)) given)

  linked_leave : (o : Result Store Fault) (run : Run) → if_linked tasks entries given o ≡ Ran run → IsLeft run.input given
  linked_leave (Err fault) run e = absurd cc
  linked_leave (Ok s) run e = threads_leave s (threads_from s tasks 0) run e

pub execution_leaves : (modules : List (List ℕ × Module)) (tasks : List (ℕ × List ℕ)) (entries : List ℕ) (capacity : ℕ) (given : Input) (run : Run) → execution modules tasks entries capacity given ≡ Ran run → IsLeft run.input given
execution_leaves modules tasks entries capacity given run e = linked_leave tasks entries given (linked modules capacity) run e

-- ---- answers of no run

pub refusals_unrun : OfRefusals (λ (a : Answer). IsUnrun a.status)
refusals_unrun = record { read_fault = λ line. tt; too_long = λ line. tt; refused = λ line. tt }

-- ---- what was done

-- over an input of which something is known
abbrev pub Answered : (Gives : Input → Option Run → Answer → Type 0) → (IsRun : Input → Run → Type 0) → Shelved → Report → Flow → Status → Type 0
Answered Gives IsRun s r f result = (given : Input) × MayGive f.left_old given × DidRun (Gives given) given s r f result × Flows given (IsRun given) f result

module _ (Gives : Input → Option Run → Answer → Type 0) (IsRun : Input → Run → Type 0) (s : Shelved) (r : Report) (f : Flow) where
  -- nothing was run
  unrun_answered : (G : Answer → Type 0) → ((given : Input) (a : Answer) → G a → Gives given None a) → ((a : Answer) → G a → IsUnrun a.status) → IsQuiet f → (result : Status) → Tells G s r result
      → Answered Gives IsRun s r f result
  unrun_answered G more unrun still result (printed status line gives counts files reports) =
      let input = some_input f.left_old in
      let a = says status line in
      (input.0, input.1, delivered None a (more input.0 a gives) counts still (put files reports), quiet (of_reports IsUnrun status line r result (unrun a gives) tt tt reports) still)
  unrun_answered G more unrun still result (unprinted counts files kept) =
      let input = some_input f.left_old in
      (input.0, input.1, starved_run counts files kept, quiet tt still)

  -- memory ran out before anything was done
  pub starved_answered : SameCounts s.reads_old s.reads_new → KeepsFiles s → IsKept r → IsQuiet f → Answered Gives IsRun s r f OutOfMemory
  starved_answered counts files kept still =
      let input = some_input f.left_old in
      (input.0, input.1, starved_run counts files kept, quiet tt still)

-- ---- a job

module _ (given : Input) (f : Flow) (run : Run) where
  ends_flowed : (end : End) (status : Status) (line : List ℕ) → EndsAs end status line → RunsWhole given f run → Flowed given f run status
  ends_flowed (Results values) status line h done = subst (Flowed given f run) (sym h.0) done
  ends_flowed (Trap whose _) status line h done = subst (Flowed given f run) (sym h.0) done
  ends_flowed BudgetEnd status line h done = subst (Flowed given f run) (sym h.0) done
  ends_flowed Stuck status line h done = absurd h

module _ (naming : Naming) (job : Job) (s : Shelved) (r : Report) (f : Flow) where
  abbrev Gives : Input → Option Run → Answer → Type 0
  Gives given = RunsJob (IsFound s) naming given job

  abbrev IsRun : Input → Run → Type 0
  IsRun given = RunOfJob (Holds s.old) given job

  pub job_starved : SameCounts s.reads_old s.reads_new → KeepsFiles s → IsKept r → IsQuiet f → Answered Gives IsRun s r f OutOfMemory
  job_starved counts files kept still = starved_answered Gives IsRun s r f counts files kept still

  pub unloaded_answered : (files : List (List ℕ × List ℕ)) → files ≡ job.modules → IsQuiet f → (result : Status) → Tells (FirstUnloaded (IsFound s) naming 0 files) s r result → Answered Gives IsRun s r f result
  unloaded_answered files same still result h =
      unrun_answered Gives IsRun s r f (FirstUnloaded (IsFound s) naming 0 files)
      (λ given a u. unloaded (subst (λ (fs : List (List ℕ × List ℕ)). FirstUnloaded (IsFound s) naming 0 fs a) same u)) (of_first refusals_unrun (IsFound s) naming 0 files) still result h

  module _ (modules : List (List ℕ × Module)) (all : AllLoaded (Holds s.old) job.modules modules) where
    unscheduled_answered : IsQuiet f → (result : Status) → Tells (Unscheduled (IsFound s) job) s r result → Answered Gives IsRun s r f result
    unscheduled_answered still result h =
        unrun_answered Gives IsRun s r f (Unscheduled (IsFound s) job) (λ given a u. unscheduled modules (all_more (Holds s.old) (IsFound s) (held_found s) job.modules modules all) u) (of_unscheduled refusals_unrun (IsFound s) job) still result h

    module _ (entries : List ℕ) (scheduled : HasEntries (Holds s.old) job entries) (counts : SameCounts s.reads_old s.reads_new) where
      abbrev run_over : Input → Execution
      run_over = execution modules job.tasks entries job.memory

      gives : (given : Input) (ran : Option Run) (a : Answer) → AnswersAs (inquiry_of job) (run_over given) ran a → Gives given ran a
      gives given which a answers =
          executed modules entries (all_more (Holds s.old) (IsFound s) (held_found s) job.modules modules all) (entries_more (Holds s.old) (IsFound s) (held_found s) job entries scheduled) answers

      is_run : (given : Input) (run : Run) → run_over given ≡ Ran run → IsRun given run
      is_run given run e = record { modules = modules; entries = entries; loaded = all; scheduled = scheduled; ran = e }

      executed_answered : (result : Status) → TellsExecution (inquiry_of job) run_over s r f result → Answered Gives IsRun s r f result
      executed_answered result (refused e line is answers still files reports) =
          let input = some_input f.left_old in
          let a = says Refused line in
          let gave = gives input.0 None a (subst (λ (x : Execution). AnswersAs (inquiry_of job) x None a) (sym (is input.0)) answers) in
          (input.0, input.1, delivered None a gave (inr counts) still (put files reports), quiet (of_reports IsUnrun Refused line r result tt tt tt reports) still)
      executed_answered result (run_printed runs is (end_printed given a tells done delivers)) =
          let run = runs given in
          let part = whole_part f given run (execution_leaves modules job.tasks entries job.memory given run (is given)) done in
          let gave = gives given (Some run) a (subst (λ (x : Execution). AnswersAs (inquiry_of job) x (Some run) a) (sym (is given)) (refl, tells)) in
          let flowed = of_delivers (Flowed given f run) a s r result (ends_flowed given f run run.end a.status tells.0 tells.2 done) part part delivers in
          (given, done.may, delivered (Some run) a gave (inr counts) done delivers, ran run (is_run given run (is given)) flowed)
      executed_answered result (run_printed runs is (end_cut given part flowed files cuts)) =
          (given, part.may, cut counts files cuts, ran (runs given) (is_run given (runs given) (is given)) flowed)
      executed_answered result (run_printed runs is (end_unprinted given part files kept)) =
          (given, part.may, starved_run counts files kept, ran (runs given) (is_run given (runs given) (is given)) part)
      executed_answered result (nothing_printed still files kept) = starved_answered Gives IsRun s r f counts files kept still

-- ---- after the job's own file was read

pub flows_more : (given : Input) (IsRun IsRun' : Run → Type 0) → ((run : Run) → IsRun run → IsRun' run) → (f : Flow) (result : Status) → Flows given IsRun f result → Flows given IsRun' f result
flows_more given IsRun IsRun' more f result (quiet unrun still) = quiet unrun still
flows_more given IsRun IsRun' more f result (ran run is flowed) = ran run (more run is) flowed

module _ (old mid new : Option Files) (reads_old reads_mid reads_new : List ℕ → ℕ) (writes_old writes_mid writes_new : ℕ)
    (held held_mid held_new : Option (List ℕ)) (puts puts_mid puts_new : ℕ) where
  abbrev before_that : Shelved
  before_that = first old mid new reads_old reads_mid reads_new writes_old writes_mid writes_new held held_mid held_new puts puts_mid puts_new

  abbrev after_that : Shelved
  after_that = second old mid new reads_old reads_mid reads_new writes_old writes_mid writes_new held held_mid held_new puts puts_mid puts_new

  abbrev all_in_all : Shelved
  all_in_all = whole old mid new reads_old reads_mid reads_new writes_old writes_mid writes_new held held_mid held_new puts puts_mid puts_new

  abbrev report_before : Report
  report_before = first_report old mid new reads_old reads_mid reads_new writes_old writes_mid writes_new held held_mid held_new puts puts_mid puts_new

  abbrev report_after : Report
  report_after = second_report old mid new reads_old reads_mid reads_new writes_old writes_mid writes_new held held_mid held_new puts puts_mid puts_new

  abbrev report_whole : Report
  report_whole = whole_report old mid new reads_old reads_mid reads_new writes_old writes_mid writes_new held held_mid held_new puts puts_mid puts_new

  pub job_answered : (name bytes : List ℕ) (f : Flow) (result : Status) → IsUntouched before_that report_before → HasBytes (Holds old) name bytes → (j : Job) → job_in bytes ≡ Ok j
      → Answered (λ given. RunsJob (IsFound after_that) Numbered given j) (λ given. RunOfJob (Holds mid) given j) after_that report_after f result
      → Answered (λ given. RunsFile (IsFound all_in_all) given name) (λ given. RunOfFile (Holds old) given name) all_in_all report_whole f result
  job_answered name bytes f result before has j is (given, may, tell, flows) =
      let found = found_later old mid new reads_old reads_mid reads_new writes_old writes_mid writes_new held held_mid held_new puts puts_mid puts_new before in (
        given,
        may,
        run_later old mid new reads_old reads_mid reads_new writes_old writes_mid writes_new held held_mid held_new puts puts_mid puts_new
            (RunsJob (IsFound after_that) Numbered given j) (RunsFile (IsFound all_in_all) given name)
            (λ ran a h. of_job bytes j has is (runs_job_more (IsFound after_that) (IsFound all_in_all) found Numbered given j ran a h)) before given f result tell,
        flows_more given (RunOfJob (Holds mid) given j) (RunOfFile (Holds old) given name)
            (λ run h. record { bytes = bytes; job = j; found = has; is_job = is; runs = subst (λ (x : Option Files). RunOfJob (Holds x) given j run) before.files.0 h }) f result flows,
      )

  -- the schedule is read behind the modules
  module _ (naming : Naming) (job : Job) (f : Flow) (modules : List (List ℕ × Module)) (all : AllLoaded (Holds old) job.modules modules) (before : IsUntouched before_that report_before) where
    pub schedule_answered : IsQuiet f → (result : Status) → Tells (Unscheduled (IsFound after_that) job) after_that report_after result
        → Answered (λ given. RunsJob (IsFound all_in_all) naming given job) (λ given. RunOfJob (Holds old) given job) all_in_all report_whole f result
    schedule_answered still result tell =
        let found = found_later old mid new reads_old reads_mid reads_new writes_old writes_mid writes_new held held_mid held_new puts puts_mid puts_new before in
        unscheduled_answered naming job all_in_all report_whole f modules all still result
        (tells_later old mid new reads_old reads_mid reads_new writes_old writes_mid writes_new held held_mid held_new puts puts_mid puts_new
        (Unscheduled (IsFound after_that) job) (Unscheduled (IsFound all_in_all) job) (unscheduled_more (IsFound after_that) (IsFound all_in_all) found job) before result tell)

    -- and the tasks are run behind that
    module _ (last : Option Files) (reads_last : List ℕ → ℕ) (writes_last : ℕ) (held_last : Option (List ℕ)) (puts_last : ℕ) where
      abbrev to_last : Shelved
      to_last = whole old new last reads_old reads_new reads_last writes_old writes_new writes_last held held_new held_last puts puts_new puts_last

      abbrev from_new : Shelved
      from_new = second old new last reads_old reads_new reads_last writes_old writes_new writes_last held held_new held_last puts puts_new puts_last

      pub tasks_answered : (schedule : Schedule) (tasks : List (ℕ × List ℕ)) → tasks ≡ job.tasks → HasEntries (Holds mid) job (entries_of schedule (length job.tasks) job.budget) → IsUntouched after_that report_after
          → (result : Status) → SameCounts reads_new reads_last → TellsExecution (record { telling = (inquiry_of job).telling; tasks = tasks }) (execution modules tasks (entries_of schedule (length tasks) job.budget) job.memory) from_new (report_of held_new held_last puts_new puts_last) f result
          → Answered (λ given. RunsJob (IsFound to_last) naming given job) (λ given. RunOfJob (Holds old) given job) to_last (report_of held held_last puts puts_last) f result
      tasks_answered schedule tasks same scheduled after result counts tell =
          let both = untouched_later old mid new reads_old reads_mid reads_new writes_old writes_mid writes_new held held_mid held_new puts puts_mid puts_new before after in
          let entries = entries_of schedule (length job.tasks) job.budget in
          let here = subst (λ (ts : List (ℕ × List ℕ)). TellsExecution (record { telling = (inquiry_of job).telling; tasks = ts }) (execution modules ts (entries_of schedule (length ts) job.budget) job.memory) from_new (report_of held_new held_last puts_new puts_last) f result) same tell in
          executed_answered naming job to_last (report_of held held_last puts puts_last) f modules all entries (subst (λ (x : Option Files). HasEntries (Holds x) job entries) before.files.0 scheduled) (λ n. counts n ∙ both.counts n) result
          (execution_later old new last reads_old reads_new reads_last writes_old writes_new writes_last held held_new held_last puts puts_new puts_last (inquiry_of job) both f (execution modules job.tasks entries job.memory) result here)

-- the file of the job wasn't read, or is none
module _ (name : List ℕ) (s : Shelved) (r : Report) (f : Flow) where
  abbrev GivesFile : Input → Option Run → Answer → Type 0
  GivesFile given = RunsFile (IsFound s) given name

  abbrev IsFileRun : Input → Run → Type 0
  IsFileRun given = RunOfFile (Holds s.old) given name

  pub unfound_answered : IsQuiet f → (result : Status) → Tells (Unfound (IsFound s) name) s r result → Answered GivesFile IsFileRun s r f result
  unfound_answered still result h = unrun_answered GivesFile IsFileRun s r f (Unfound (IsFound s) name) (λ given a u. no_job_file u) (of_unfound refusals_unrun (IsFound s) name) still result h

  no_job_answered : (bytes : List ℕ) (fault : JobFault) → HasBytes (Holds s.old) name bytes → job_in bytes ≡ Err fault → SameCounts s.reads_old s.reads_new → KeepsFiles s → IsQuiet f → (result : Status) → Reports Refused (job_line fault) r result
      → Answered GivesFile IsFileRun s r f result
  no_job_answered bytes fault has is counts files still result reports =
      let input = some_input f.left_old in
      (input.0, input.1, delivered None (says Refused (job_line fault)) (no_job bytes fault has is) (inr counts) still (put files reports), quiet (of_reports IsUnrun Refused (job_line fault) r result tt tt tt reports) still)

  pub fault_answered : (bytes : List ℕ) (fault : JobFault) → HasBytes (Holds s.old) name bytes → ReadsJob (job_in bytes) (Err fault) → SameCounts s.reads_old s.reads_new → KeepsFiles s → IsQuiet f → (result : Status) → ReportsJobFault fault r result
      → Answered GivesFile IsFileRun s r f result
  fault_answered bytes (job_faults.Line n) has is counts files still result reports = no_job_answered bytes (job_faults.Line n) has is counts files still result reports
  fault_answered bytes job_faults.NoTask has is counts files still result reports = no_job_answered bytes job_faults.NoTask has is counts files still result reports
  fault_answered bytes job_faults.Budget has is counts files still result reports = no_job_answered bytes job_faults.Budget has is counts files still result reports
  fault_answered bytes job_faults.Memory has is counts files still result reports = subst (λ (x : Status). Answered GivesFile IsFileRun s r f x) (sym reports.0) (starved_answered GivesFile IsFileRun s r f counts files reports.1 still)

-- why a text is no job, and that it was put
pub job_fault_reported : (fault : JobFault) (r : Report) (result : Status) → fault ≢ job_faults.Memory → Reports Refused (job_line fault) r result → ReportsJobFault fault r result
job_fault_reported (job_faults.Line n) r result not h = h
job_fault_reported job_faults.NoTask r result not h = h
job_fault_reported job_faults.Budget r result not h = h
job_fault_reported job_faults.Memory r result not h = absurd (not refl)

-- ---- what is required

loaded_names : (Has : List ℕ → Found → Type 0) (files : List (List ℕ × List ℕ)) (modules : List (List ℕ × Module)) → AllLoaded Has files modules → map (λ (m : List ℕ × Module). m.0) modules ≡ map (λ (f : List ℕ × List ℕ). f.0) files
loaded_names Has files modules no_more = refl
loaded_names Has files modules (one_more name file m {files = fs} {modules = ms} h all) = ap (λ ns. name ∷ ns) (loaded_names Has fs ms all)

pub names_apart : (Has : List ℕ → Found → Type 0) (job : Job) (modules : List (List ℕ × Module)) → AllLoaded Has job.modules modules → IsBounded job → AreDistinct (map (λ (m : List ℕ × Module). m.0) modules)
names_apart Has job modules all bounds = subst AreDistinct (sym (loaded_names Has job.modules modules all)) bounds.names

pub exec_bounded : (file : List ℕ) (budget memory : ℕ) → budget ≤ options.budget.most → memory ≤ options.memory.most → IsBounded (exec_job file budget memory)
exec_bounded file budget memory few small = record { names = (tt, tt); some = omega arith; few = omega arith; turns = omega arith; budget = few; memory = small; reach = All-nil _; only = tt }
