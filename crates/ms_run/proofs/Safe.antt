-- The events of an execution of well-typed modules are a trace that the colour monitor accepts, and the segment memory counts their
-- accesses; and so it is with the run of which an answer tells.
use Rattle.std.proofs.Common.{◌≡◌, ◌∙◌, ◌<◌, ◌≤◌, ◌^◌, ℕ, List, [], inl, inr, length, Option, Result, Ok, Err, refl, sym, ap, subst, arith}
use Rattle.std.specs.List.{All}
use Rattle.std.proofs.lemmas.List.Elements.{All-cons, All-nil}
use Rattle.std.proofs.lemmas.List.{length-replicate, length-take}
use Rattle.std.specs.Prelude.{filter, take}
use Rattle.ms_event.specs.Monitor.{Accepts}
use Rattle.ms_module.specs.declared.module.Module.{Module}
use Rattle.ms_rules.specs.Modules.{WellTyped}
use Rattle.ms_tagged.specs.Bytes.{Byte, Data}
use Rattle.ms_task.specs.Thread.{Thread}
use Rattle.ms_machine.specs.refinement.Accesses.{counted_all}
use Rattle.ms_machine.specs.Crews.{Input, Run, events_of, run_of, turns_from}
use Rattle.ms_machine.specs.Running.{MayGive}
use Rattle.ms_machine.specs.Externs.{Fault}
use Rattle.ms_machine.specs.Linked.{linked}
use Rattle.ms_machine.specs.Store.{Store}
use Rattle.ms_link.proofs.Plain.{linked_fits, linked_sound}
use Rattle.ms_link.proofs.Stores.{linked_made, linked_typed}
use Rattle.ms_tasks.specs.refinement.Ready.{IsReady}
use Rattle.ms_tasks.specs.Tasks.{crew_of, threads_from}
use Rattle.ms_tasks.proofs.Making.{crew_ready, crew_sound}
use Rattle.ms_tasks.proofs.Only.{length_by_only}
use Rattle.ms_tasks.proofs.Outs.{length_turns}
use Rattle.ms_tasks.proofs.Counting.{run_counts}
use Rattle.ms_tasks.proofs.Safe.{run_accepted}
use Rattle.ms_command_line.specs.Commands as options
use Rattle.ms_job.specs.refinement.Bounds.{IsBounded}
use Rattle.ms_job.specs.declared.job.Job.{Job}
use Rattle.ms_job.proofs.Bounded.{job_is_bounded}
use Rattle.ms_run.specs.Answers.{Answer, Found}
use Rattle.ms_run.specs.Executions.{AnswersAs, Execution, NoTask, Ran, Unlinked, execution, if_linked, with_threads}
use Rattle.ms_run.specs.Flows.{DidRun, FlowsAs, IsUnrun, cut, delivered, input_failed, out_failed, starved_run}
use Rattle.ms_run.specs.Jobs.{AllLoaded, HasEntries, HasJob, RunOfFile, RunOfJob, RunsFile, RunsJob, executed, in_turns, job as of_file, listed, no_job, no_job_file, no_more, one_more, unloaded, unscheduled}
use Rattle.ms_run.specs.Observed.{Flow, Report, Shelved}
use Rattle.ms_run.specs.Reporting.{Grows, HasWritten, Holds, IsFound, failed, put, starved}
use Rattle.ms_run.specs.SafeRuns.{IsEnd, RanSafely, is_access}
use Rattle.ms_run.specs.Telling.{inquiry_of}
use Rattle.ms_run.specs.declared.gathering.Naming.{Naming}
use Rattle.ms_run.specs.declared.gathering.Naming.TheVariants.{Numbered}
use Rattle.ms_run.specs.declared.status.Status.{Status}
use Rattle.ms_run.specs.declared.status.Status.TheVariants as statuses
use Rattle.ms_run.proofs.Accesses.{counts_exactly, run_few}
use Rattle.ms_run.proofs.Jobs.{Answered, refusals_unrun}
use Rattle.ms_run.proofs.Once.{all_known, entries_known}
use Rattle.ms_run.proofs.Refusals.{of_first, of_unfound, of_unscheduled}

module _ (modules : List (List ℕ × Module)) (tasks : List (ℕ × List ℕ)) (entries : List ℕ) (capacity : ℕ) (given : Input) where
  -- the modules are linked to a store, in which all tasks have functions
  record Executed (run : Run) : Type 0 where
    pub store : Store
    pub threads : List Thread
    pub linked_is : linked modules capacity ≡ Ok store
    pub threads_are : threads_from store tasks 0 ≡ Ok threads
    pub run_is : run_of entries (crew_of store threads) given ≡ run

  was_executed : (run : Run) → execution modules tasks entries capacity given ≡ Ran run → Executed run
  was_executed run e = by (linked modules capacity) refl e where
    by_threads : (s : Store) → linked modules capacity ≡ Ok s → (r : Result (List Thread) ℕ) → threads_from s tasks 0 ≡ r → with_threads entries s given r ≡ Ran run → Executed run
    by_threads s linked_is (Ok ts) threads_are e = record { store = s; threads = ts; linked_is = linked_is; threads_are = threads_are; run_is = cc }
    by_threads s linked_is (Err number) threads_are e = absurd cc

    by : (r : Result Store Fault) → linked modules capacity ≡ r → if_linked tasks entries given r ≡ Ran run → Executed run
    by (Ok s) linked_is e = by_threads s linked_is (threads_from s tasks 0) refl e
    by (Err fault) linked_is e = absurd cc

  linked_length : (s : Store) → linked modules capacity ≡ Ok s → length s.segments.bytes ≡ capacity
  linked_length s e =
      let made = linked_made modules capacity s e in
      subst (λ (x : Store). length x.segments.bytes ≡ capacity) made.2 (length-replicate {A = Byte} capacity (Data 0))

  -- nothing was counted before, and the entries are few enough that no count stands still
  execution_is_counted : length entries < 18446744073709551615 → (run : Run) → execution modules tasks entries capacity given ≡ Ran run → run.crew.store.segments.accesses ≡ length (filter is_access (events_of run.deeds))
  execution_is_counted few run e =
      let x = was_executed run e in
      let made = linked_made modules capacity x.store x.linked_is in
      let crew = crew_of x.store x.threads in
      let events = events_of (run_of entries crew given).deeds in
      let from_none : x.store.segments.accesses ≡ 0 = ap (λ (s : Store). s.segments.accesses) (sym made.2) in
      let least = run_few entries crew given in
      subst (λ (r : Run). r.crew.store.segments.accesses ≡ length (filter is_access (events_of r.deeds))) x.run_is
      (run_counts entries crew given ∙ (ap (counted_all events) from_none ∙ counts_exactly events (omega (arith, few, least))))

  module _ (small : capacity < 2 ^ 32) (typed : All (λ (m : List ℕ × Module). WellTyped m.1) modules) where
    is_ready : (run : Run) (x : Executed run) → IsReady (crew_of x.store x.threads)
    is_ready run x =
        let well = linked_typed modules capacity x.store typed x.linked_is in
        crew_ready x.store tasks x.threads well.0 (linked_fits modules capacity x.store (omega arith) x.linked_is) well.1 x.threads_are

    pub execution_is_accepted : (run : Run) → execution modules tasks entries capacity given ≡ Ran run → Accepts capacity (events_of run.deeds)
    execution_is_accepted run e =
        let x = was_executed run e in
        let well = linked_typed modules capacity x.store typed x.linked_is in
        let sound = crew_sound x.store tasks x.threads well.1 x.threads_are [] (linked_sound modules capacity x.store x.linked_is) in
        subst (λ (r : Run). Accepts capacity (events_of r.deeds)) x.run_is
        (subst (λ n. Accepts n (events_of (run_of entries (crew_of x.store x.threads) given).deeds)) (linked_length x.store x.linked_is)
        (run_accepted entries (crew_of x.store x.threads) given (is_ready run x) sound))

-- ---- the runs of jobs

pub loaded_typed : (Has : List ℕ → Found → Type 0) (files : List (List ℕ × List ℕ)) (modules : List (List ℕ × Module)) → AllLoaded Has files modules → All (λ (m : List ℕ × Module). WellTyped m.1) modules
loaded_typed Has files modules no_more = All-nil (λ (m : List ℕ × Module). WellTyped m.1)
loaded_typed Has files modules (one_more name file m {files = fs} {modules = ms} h all) = All-cons (λ (m : List ℕ × Module). WellTyped m.1) (name, m) ms h.typed (loaded_typed Has fs ms all)

pub run_is_accepted : (Has : List ℕ → Found → Type 0) (given : Input) (job : Job) (run : Run) → job.memory ≤ options.memory.most → RunOfJob Has given job run → Accepts job.memory (events_of run.deeds)
run_is_accepted Has given job run small h =
    execution_is_accepted h.modules job.tasks h.entries job.memory given (omega arith) (loaded_typed Has job.modules h.modules h.loaded) run h.ran

-- there are no more entries than the budget has
few_entries : (Has : List ℕ → Found → Type 0) (job : Job) (entries : List ℕ) → HasEntries Has job entries → length entries ≤ job.budget
few_entries Has job entries (in_turns e) =
    let turns = turns_from job.turns (length job.tasks) 0 job.budget in
    let named = length_by_only job.only (length job.tasks) turns in
    let same = length_turns job.turns (length job.tasks) 0 job.budget in
    omega (arith, named, same)
few_entries Has job entries (listed name numbers e has) =
    let named = length_by_only job.only (length job.tasks) (take job.budget numbers) in
    let same = length-take job.budget numbers in
    omega (arith, named, same)

run_is_counted : (Has : List ℕ → Found → Type 0) (given : Input) (job : Job) (run : Run) → job.budget ≤ options.budget.most → RunOfJob Has given job run → run.crew.store.segments.accesses ≡ length (filter is_access (events_of run.deeds))
run_is_counted Has given job run within h =
    let few = few_entries Has job h.entries h.scheduled in
    execution_is_counted h.modules job.tasks h.entries job.memory given (omega (arith, few, within)) run h.ran

-- ---- an answer that tells of a run

never_end : (status : Status) → IsUnrun status → IsEnd status → ⊥
never_end statuses.Done unrun end = unrun
never_end statuses.Trapped unrun end = unrun
never_end statuses.OutOfBudget unrun end = unrun
never_end statuses.Usage unrun end = end
never_end statuses.Refused unrun end = end
never_end statuses.ReadFault unrun end = end
never_end statuses.WriteFault unrun end = end
never_end statuses.OutOfMemory unrun end = end
never_end statuses.TooLong unrun end = end

no_end : (status other : Status) → status ≡ other → ¬ IsEnd other → IsEnd status → ⊥
no_end status other e not end = not (subst IsEnd e end)

module _ (s : Shelved) (r : Report) (f : Flow) (naming : Naming) (given : Input) (may : MayGive f.left_old given) (job : Job) (bounds : IsBounded job) where
  module _ (ran : Option Run) (a : Answer) (flows : FlowsAs given f ran) (grown : Grows r a.report) (written : HasWritten s a.file) (result : Status) (status_is : result ≡ a.status) (end : IsEnd a.status) where
    executed_safely : (modules : List (List ℕ × Module)) (entries : List ℕ) → AllLoaded (IsFound s) job.modules modules → HasEntries (IsFound s) job entries
        → (e : Execution) → execution modules job.tasks entries job.memory given ≡ e → AnswersAs (inquiry_of job) e ran a → RanSafely s.old s r f job result
    executed_safely modules entries all scheduled (Unlinked fault) is h = absurd (no_end a.status statuses.Refused (ap (λ (x : Answer). x.status) h.1) (λ x. x) end)
    executed_safely modules entries all scheduled (NoTask number) is h = absurd (no_end a.status statuses.Refused (ap (λ (x : Answer). x.status) h.1) (λ x. x) end)
    executed_safely modules entries all scheduled (Ran run) is h =
        let of_job : RunOfJob (Holds s.old) given job run = record {
          modules = modules;
          entries = entries;
          loaded = all_known (IsFound s) (Holds s.old) (λ name bytes x. x) job.modules modules all;
          scheduled = entries_known (IsFound s) (Holds s.old) (λ name bytes x. x) job entries scheduled;
          ran = is;
        } in
        record {
          given = given;
          run = run;
          may = may;
          of_job = of_job;
          answer = a;
          tells = h.1;
          status_is = status_is;
          grown = grown;
          written = written;
          flowed = subst (FlowsAs given f) h.0 flows;
          small = bounds.memory;
          accepted = run_is_accepted (Holds s.old) given job run bounds.memory of_job;
          counted = run_is_counted (Holds s.old) given job run bounds.budget of_job;
        }

  answer_safely : (ran : Option Run) (a : Answer) → FlowsAs given f ran → Grows r a.report → HasWritten s a.file → (result : Status) → result ≡ a.status → IsEnd a.status → RunsJob (IsFound s) naming given job ran a → RanSafely s.old s r f job result
  answer_safely ran a flows grown written result is end (unloaded h) = absurd (never_end a.status (of_first refusals_unrun (IsFound s) naming 0 job.modules a h) end)
  answer_safely ran a flows grown written result is end (unscheduled modules all h) = absurd (never_end a.status (of_unscheduled refusals_unrun (IsFound s) job a h) end)
  answer_safely ran a flows grown written result is end (executed modules entries all scheduled h) =
      executed_safely ran a flows grown written result is end modules entries all scheduled (execution modules job.tasks entries job.memory given) refl h

-- the answer was delivered whole
abbrev pub IsDelivered : (Option Run → Answer → Type 0) → (given : Input) → Shelved → Report → Flow → Status → Type 0
IsDelivered Gives given s r f result = (ran : Option Run) × (a : Answer) × Gives ran a × FlowsAs given f ran × Grows r a.report × HasWritten s a.file × (result ≡ a.status)

pub delivered_whole : (Gives : Option Run → Answer → Type 0) (given : Input) (s : Shelved) (r : Report) (f : Flow) (result : Status) → IsEnd result → DidRun Gives given s r f result → IsDelivered Gives given s r f result
delivered_whole Gives given s r f result end (delivered ran a gives counts flows (put written (inl h))) = (ran, a, gives, flows, h.1, written, h.0)
delivered_whole Gives given s r f result end (delivered ran a gives counts flows (put written (inr (inl h)))) = absurd (no_end result statuses.WriteFault h.0 (λ x. x) end)
delivered_whole Gives given s r f result end (delivered ran a gives counts flows (put written (inr (inr h)))) = absurd (no_end result statuses.OutOfMemory h.0 (λ x. x) end)
delivered_whole Gives given s r f result end (delivered ran a gives counts flows (failed part kept)) = absurd end
delivered_whole Gives given s r f result end (delivered ran a gives counts flows (starved files kept)) = absurd end
delivered_whole Gives given s r f result end (cut counts files (input_failed rose (inl h))) = absurd (no_end result statuses.ReadFault h.0 (λ x. x) end)
delivered_whole Gives given s r f result end (cut counts files (input_failed rose (inr (inl h)))) = absurd (no_end result statuses.WriteFault h.0 (λ x. x) end)
delivered_whole Gives given s r f result end (cut counts files (input_failed rose (inr (inr h)))) = absurd (no_end result statuses.OutOfMemory h.0 (λ x. x) end)
delivered_whole Gives given s r f result end (cut counts files (out_failed rose kept)) = absurd end
delivered_whole Gives given s r f result end (starved_run counts files kept) = absurd end

module _ (s : Shelved) (r : Report) (f : Flow) (given : Input) (may : MayGive f.left_old given) where
  job_safely : (naming : Naming) (job : Job) → IsBounded job → (result : Status) → IsEnd result → DidRun (RunsJob (IsFound s) naming given job) given s r f result → RanSafely s.old s r f job result
  job_safely naming job bounds result end did =
      let whole = delivered_whole (RunsJob (IsFound s) naming given job) given s r f result end did in
      answer_safely s r f naming given may job bounds whole.0 whole.1 whole.3 whole.4 whole.5 result whole.6 (subst IsEnd whole.6 end) whole.2

  -- the job of a file
  abbrev pub FileSafely : List ℕ → Status → Type 0
  FileSafely name result = (job : Job) × HasJob (Holds s.old) name job × RanSafely s.old s r f job result

  file_by : (name : List ℕ) (ran : Option Run) (a : Answer) → FlowsAs given f ran → Grows r a.report → HasWritten s a.file → (result : Status) → result ≡ a.status → IsEnd a.status → RunsFile (IsFound s) given name ran a → FileSafely name result
  file_by name ran a flows grown written result same end (no_job_file h) = absurd (never_end a.status (of_unfound refusals_unrun (IsFound s) name a h) end)
  file_by name ran a flows grown written result same end (no_job bytes fault h is) = absurd end
  file_by name ran a flows grown written result same end (of_file bytes job h is runs) =
      let bounds = job_is_bounded bytes job is in
      (job, (bytes, h, is), answer_safely s r f Numbered given may job bounds ran a flows grown written result same end runs)

  file_safely : (name : List ℕ) (result : Status) → IsEnd result → DidRun (RunsFile (IsFound s) given name) given s r f result → FileSafely name result
  file_safely name result end did =
      let whole = delivered_whole (RunsFile (IsFound s) given name) given s r f result end did in
      file_by name whole.0 whole.1 whole.3 whole.4 whole.5 result whole.6 (subst IsEnd whole.6 end) whole.2

-- ---- what was done, and so safely

module _ (s : Shelved) (r : Report) (f : Flow) where
  pub job_did_safely : (naming : Naming) (job : Job) → IsBounded job → (result : Status) → Answered (λ given. RunsJob (IsFound s) naming given job) (λ given. RunOfJob (Holds s.old) given job) s r f result
      → IsEnd result → RanSafely s.old s r f job result
  job_did_safely naming job bounds result (given, may, did, flows) end = job_safely s r f given may naming job bounds result end did

  pub file_did_safely : (name : List ℕ) (result : Status) → Answered (λ given. RunsFile (IsFound s) given name) (λ given. RunOfFile (Holds s.old) given name) s r f result
      → IsEnd result → (job : Job) × HasJob (Holds s.old) name job × RanSafely s.old s r f job result
  file_did_safely name result (given, may, did, flows) end = file_safely s r f given may name result end did
