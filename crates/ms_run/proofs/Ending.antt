-- What was put of the end of a run, by what the run of the crew answered.
use Rattle.std.proofs.Common.{◌≡◌, ◌∙◌, ◌+◌, ℕ, suc, inl, inr, List, [], ◌++◌, append-nil, append_assoc, drop, length, slice_get, Option, Some, None, option_map, refl, sym, ap, subst, arith}
use Rattle.std.specs.Prelude.{is_some}
use Rattle.ms_event.specs.declared.event.Event.{Event}
use Rattle.ms_monitor.specs.Traces.{trace_text}
use Rattle.ms_linear.specs.declared.value.Value.{Value}
use Rattle.ms_task.specs.Thread.{Thread}
use Rattle.ms_tasks.proofs.Chaining.{drop_at}
use Rattle.ms_host.specs.declared.trap.TrapKind.{TrapKind}
use Rattle.ms_machine.specs.Crews.{Crew, End, Input, OutOfBudget as BudgetEnd, Results, Run, Trap, begun, bytes_of, events_of, results, run_of}
use Rattle.ms_machine.specs.Running.{IsLeft}
use Rattle.ms_tasks.specs.refinement.Logs.{Log, Trace, all_seen, logged}
use Rattle.ms_tasks.proofs.Deeds.{events_kept}
use Rattle.ms_tasks.specs.States.{if_trapped, in_crew}
use Rattle.ms_tasks.specs.declared.state.TaskState.{TaskState}
use Rattle.ms_tasks.specs.Tasks.{AreAddresses}
use Rattle.ms_tasks.specs.refinement.Making.{Addressed}
use Rattle.ms_tasks.specs.refinement.Outside.{HasBegun, HasRun}
use Rattle.ms_tasks.specs.refinement.Runs.{CountsInput, CountsOut, DoesRun}
use Rattle.ms_tasks.specs.declared.ran.Ran.TheVariants as answers
use Rattle.ms_tasks.specs.declared.ran.Stop.{Stop}
use Rattle.ms_tasks.specs.declared.whose.Whose.{Whose}
use Rattle.ms_tasks.specs.refinement.Steppers.{by_stop, whose_of}
use Rattle.ms_run.specs.Answers.{Answer, File}
use Rattle.ms_run.specs.Executions.{AreLeft, EndsAs, TellsOf}
use Rattle.ms_run.specs.Flows.{Flowed, RunsPart, RunsWhole, TellsEnd, end_cut, end_printed, end_unprinted, input_failed, out_failed}
use Rattle.ms_run.specs.Lines.{budget_line, input_fault_line, result_line, result_lines, trap_line}
use Rattle.ms_run.specs.Observed.{Flow, Report, Shelved}
use Rattle.ms_run.specs.Reporting.{Delivers, IsKept, KeepsFiles, Reports, failed, put, starved}
use Rattle.ms_run.specs.Reached.{AreReached}
use Rattle.ms_run.specs.Standing.{AreStanding}
use Rattle.ms_run.specs.Telling.{Inquiry, counted, dumped, traced}
use Rattle.ms_run.specs.declared.status.Status.{Status}
use Rattle.ms_run.specs.declared.status.Status.TheVariants.{Done, OutOfBudget, OutOfMemory, ReadFault, Trapped, WriteFault}
use Rattle.ms_run.specs.declared.telling.Telling.{Telling}
use Rattle.ms_run.specs.refinement.Counts.{blank, logged_lines}
use Rattle.ms_run.specs.refinement.Told.{AreListed, AreTasks, IsTold, state_in, told, untold, whole_report}
use Rattle.ms_run.proofs.Counting.{run_counts}
use Rattle.ms_run.proofs.Logged.{lines_logged}
use Rattle.ms_run.proofs.Reaching.{begun_reached}

-- ---- the status of what was put

module _ (P : Status → Type 0) (status : Status) (line : List ℕ) (r : Report) (result : Status) where
  pub of_reports : P status → P WriteFault → P OutOfMemory → Reports status line r result → P result
  of_reports a b c (inl h) = subst P (sym h.0) a
  of_reports a b c (inr (inl h)) = subst P (sym h.0) b
  of_reports a b c (inr (inr h)) = subst P (sym h.0) c

pub of_delivers : (P : Status → Type 0) (a : Answer) (s : Shelved) (r : Report) (result : Status) → P a.status → P WriteFault → P OutOfMemory → Delivers a s r result → P result
of_delivers P a s r result is fault memory (put written reports) = of_reports P a.status a.report r result is fault memory reports
of_delivers P a s r result is fault memory (failed part kept) = fault
of_delivers P a s r result is fault memory (starved files kept) = memory

-- ---- the input and the output

module _ (f : Flow) (old new : Log) (given : Input) (run : Run) where
  whole_of : f.takes_new ≡ f.takes_old → f.puts_new ≡ f.puts_old → HasRun f.left_old f.left_new f.held_old f.held_new old new given run → RunsWhole given f run
  whole_of takes puts h = record { takes = takes; puts = puts; alike = h.alike; may = h.may; rest = h.rest; out = h.out }

  part_of : HasBegun f.left_old f.left_new f.held_old f.held_new old new given run → RunsPart given f run
  part_of h = record { alike = h.alike; may = h.may; now = h.now; rest = h.rest; taken = h.taken; to_take = h.to_take; front = h.front; is_front = h.is_front; out = h.out }

-- a whole run is a part of it
pub whole_part : (f : Flow) (given : Input) (run : Run) → IsLeft run.input given → RunsWhole given f run → RunsPart given f run
whole_part f given run left h =
    record { alike = h.alike; may = h.may; now = run.input; rest = h.rest; taken = left; to_take = ([], refl); front = bytes_of run.deeds; is_front = ([], sym (append-nil (bytes_of run.deeds))); out = h.out }

-- ---- the events that were kept, for a trace that is asked for

abbrev file_of : (name : List ℕ) → List Event → Option File
file_of name events = Some (record { name = name; bytes = trace_text events })

traced_same : (o : Option (List ℕ)) (trace : Trace) (es : List Event) → trace.keep ≡ is_some o → trace.events ≡ []
    → option_map {U = File} (λ name. record { name = name; bytes = trace_text (all_seen es trace).events }) o ≡ option_map {U = File} (λ name. record { name = name; bytes = trace_text es }) o
traced_same None trace es keeps none = refl
traced_same (Some name) trace es keeps none = ap (file_of name) (events_kept es trace keeps ∙ ap (λ (x : List Event). x ++ es) none)

-- there is no file where none is asked for
pub untraced : (telling : Telling) (events : List Event) → telling.trace ≡ None → traced telling events ≡ None
untraced telling events none = ap (λ (o : Option (List ℕ)). option_map {U = File} (λ name. record { name = name; bytes = trace_text events }) o) none

-- it has the name that is asked for
pub same_file : (x y : File) → ◌≡◌ {A = Option File} (Some x) (Some y) → x ≡ y
same_file x y e = cc

pub traced_name : (telling : Telling) (events : List Event) (file : File) → traced telling events ≡ Some file → telling.trace ≡ Some file.name
traced_name telling events file e = by telling.trace refl e where
  by : (o : Option (List ℕ)) → telling.trace ≡ o → option_map {U = File} (λ name. record { name = name; bytes = trace_text events }) o ≡ Some file → telling.trace ≡ Some file.name
  by None is e = absurd cc
  by (Some name) is e = is ∙ ap (λ (x : File). Some x.name) (same_file (record { name = name; bytes = trace_text events }) file e)

-- ---- the answers of the run of a crew

-- all was told, or nothing for want of memory
told_or : (telling : Telling) (c : Addressed) (log : Log) (status : Status) (lines : List ℕ) (s : Shelved) (r : Report) (P : Status → Type 0) (result : Status) → IsTold telling c log status lines s r result
    → ((left : List ℕ) → AreListed telling c left → Delivers (record { status = status; report = whole_report telling c log lines left; file = traced telling log.trace.events }) s r result → P result)
    → (KeepsFiles s → IsKept r → P OutOfMemory) → P result
told_or telling c log status lines s r P result (told left are delivers) all none = all left are delivers
told_or telling c log status lines s r P result (untold files kept) all none = none files kept

-- what is told of how tasks stand is told of the run
module _ (asked : Inquiry) (c : Addressed) (addresses : AreAddresses c.store asked.tasks c.addresses) where
  -- where the states of the tasks are those of a run that ended so
  left_of : (run : Run) (left : List ℕ) → run.crew ≡ begun c.crew → state_in c ≡ (λ n. if_trapped n run.end (in_crew (slice_get c.tasks n))) → AreListed asked.telling c left → AreLeft asked run left
  left_of run left crew states (reached, standing, are, stand, is) =
      let state : (x : Crew) → ℕ → TaskState = λ x n. if_trapped n run.end (in_crew (slice_get x.tasks n)) in (
        reached,
        standing,
        c.addresses,
        subst (λ (x : Crew). AreReached x 0 asked.telling.reach reached) (sym crew) (begun_reached c.crew 0 asked.telling.reach reached are),
        subst (λ (x : Crew). AreAddresses x.store asked.tasks c.addresses) (sym crew) addresses,
        subst (λ (x : Crew). AreStanding x.store c.addresses (state x) asked.telling.each standing) (sym crew) (subst (λ (f : ℕ → TaskState). AreStanding c.store c.addresses f asked.telling.each standing) states stand),
        is,
      )

module _ (asked : Inquiry) (run_over : Input → Run) (c : Addressed) (s : Shelved) (r : Report) (f : Flow) (old new : Log) (result : Status) where
  abbrev telling : Telling
  telling = asked.telling

  -- the answer of a run that ended with these lines
  abbrev with_lines : Status → (lines left : List ℕ) → Answer
  with_lines status lines left = record { status = status; report = whole_report telling c new lines left; file = traced telling new.trace.events }

  abbrev Printed_of : Status → List ℕ → Type 0
  Printed_of status lines = IsTold telling c new status lines s r result

  module _ (addresses : AreAddresses c.store asked.tasks c.addresses) (is_new : old ≡ blank (is_some telling.trace)) (leaves : (given : Input) → IsLeft (run_over given).input given) where
    ended : (given : Input) (end : End) (status : Status) (lines : List ℕ) → state_in c ≡ (λ n. if_trapped n end (in_crew (slice_get c.tasks n))) → (run_over given).end ≡ end → EndsAs end status lines → (run_over given).crew ≡ begun c.crew → f.takes_new ≡ f.takes_old → f.puts_new ≡ f.puts_old
        → HasRun f.left_old f.left_new f.held_old f.held_new old new given (run_over given) → Printed_of status lines → TellsEnd asked run_over s r f result
    ended given end status lines states is ends crew takes puts has printed =
        let run = run_over given in
        let events : traced telling new.trace.events ≡ traced telling (events_of run.deeds) =
        ap (λ (x : Log). traced telling x.trace.events) has.log ∙ traced_same telling.trace old.trace (events_of run.deeds) (ap (λ (l : Log). l.trace.keep) is_new) (ap (λ (l : Log). l.trace.events) is_new) in
        let numbers : logged_lines telling new ≡ counted telling run.deeds =
        ap (logged_lines telling) (has.log ∙ ap (logged run.deeds) is_new) ∙ lines_logged (is_some telling.trace) run.deeds telling in
        let states_are : state_in c ≡ (λ n. if_trapped n run.end (in_crew (slice_get c.tasks n))) = subst (λ (e : End). state_in c ≡ (λ n. if_trapped n e (in_crew (slice_get c.tasks n)))) (sym is) states in
        let tells : (left : List ℕ) → AreListed telling c left → TellsOf asked run (with_lines status lines left) = λ left are. (
          lines,
          left,
          subst (λ (e : End). EndsAs e status lines) (sym is) ends,
          left_of asked c addresses run left crew states_are are,
          ap (λ (x : List ℕ). x ++ (lines ++ (dumped telling c.store.segments ++ left))) numbers ∙ ap (λ (x : Crew). counted telling run.deeds ++ (lines ++ (dumped telling x.store.segments ++ left))) (sym crew),
          events,
        ) in
        let done = whole_of f old new given run takes puts has in
        told_or telling c new status lines s r (TellsEnd asked run_over s r f) result printed
        (λ left are delivers. end_printed given (with_lines status lines left) (tells left are) done delivers)
        (λ files kept. end_unprinted given (whole_part f given run (leaves given) done) files kept)

    -- how the tasks stand by the step that stopped the run
    stopped_by : {stop : Option Stop} → c.trapped ≡ stop → state_in c ≡ (λ n. by_stop n stop (in_crew (slice_get c.tasks n)))
    stopped_by is = ap (λ (o : Option Stop). λ (n : ℕ). by_stop n o (in_crew (slice_get c.tasks n))) is

    pub results_printed : c.trapped ≡ None → CountsInput answers.Results f.takes_old f.takes_new → CountsOut answers.Results f.puts_old f.puts_new → (given : Input) × DoesRun answers.Results c.crew f.left_old f.left_new f.held_old f.held_new old new given (run_over given)
        → Printed_of Done (result_lines (results c.tasks)) → TellsEnd asked run_over s r f result
    results_printed none takes puts (given, does) delivers = ended given (Results (results c.tasks)) Done (result_lines (results c.tasks)) (stopped_by none) does.0 (refl, refl) does.1 takes puts does.2 delivers

    pub trap_printed : (whose : Whose) (kind : TrapKind) → c.trapped ≡ Some (record { whose = whose; kind = kind }) → CountsInput (answers.Trap whose kind) f.takes_old f.takes_new → CountsOut (answers.Trap whose kind) f.puts_old f.puts_new → (given : Input) × DoesRun (answers.Trap whose kind) c.crew f.left_old f.left_new f.held_old f.held_new old new given (run_over given)
        → Printed_of Trapped (trap_line kind) → TellsEnd asked run_over s r f result
    trap_printed whose kind stopped takes puts (given, does) delivers = ended given (Trap (whose_of whose) kind) Trapped (trap_line kind) (stopped_by stopped) does.0 (refl, refl) does.1 takes puts does.2 delivers

    pub budget_printed : c.trapped ≡ None → CountsInput answers.Budget f.takes_old f.takes_new → CountsOut answers.Budget f.puts_old f.puts_new → (given : Input) × DoesRun answers.Budget c.crew f.left_old f.left_new f.held_old f.held_new old new given (run_over given)
        → Printed_of OutOfBudget budget_line → TellsEnd asked run_over s r f result
    budget_printed none takes puts (given, does) delivers = ended given BudgetEnd OutOfBudget budget_line (stopped_by none) does.0 (refl, refl) does.1 takes puts does.2 delivers

  pub read_fault_printed : CountsInput answers.ReadFault f.takes_old f.takes_new → CountsOut answers.ReadFault f.puts_old f.puts_new → (given : Input) × DoesRun answers.ReadFault c.crew f.left_old f.left_new f.held_old f.held_new old new given (run_over given)
      → KeepsFiles s → Reports ReadFault input_fault_line r result → TellsEnd asked run_over s r f result
  read_fault_printed takes puts (given, does) files reports =
      let part = part_of f old new given (run_over given) does in
      end_cut given part (of_reports (Flowed given f (run_over given)) ReadFault input_fault_line r result (puts, part) part part reports) files (input_failed takes.rose reports)

  pub write_fault_printed : CountsInput answers.WriteFault f.takes_old f.takes_new → CountsOut answers.WriteFault f.puts_old f.puts_new → (given : Input) × DoesRun answers.WriteFault c.crew f.left_old f.left_new f.held_old f.held_new old new given (run_over given)
      → KeepsFiles s → IsKept r → TellsEnd asked run_over s r f WriteFault
  write_fault_printed takes puts (given, does) files kept =
      let part = part_of f old new given (run_over given) does in
      end_cut given part part files (out_failed puts.rose kept)

  pub memory_printed : (given : Input) × DoesRun answers.Memory c.crew f.left_old f.left_new f.held_old f.held_new old new given (run_over given) → KeepsFiles s → IsKept r → TellsEnd asked run_over s r f OutOfMemory
  memory_printed (given, does) files kept = end_unprinted given (part_of f old new given (run_over given) does) files kept

-- ---- the lines of the tasks

pub lines_grow : (made more all : List ℕ) (tasks : List Thread) (k : ℕ) (t : Thread) (value : Option Value) → slice_get tasks k ≡ Some t → value ≡ slice_get t.operands 0 → more ≡ result_line value
    → made ++ result_lines (results (drop k tasks)) ≡ all → (made ++ more) ++ result_lines (results (drop (k + 1) tasks)) ≡ all
lines_grow made more all tasks k t value found is line so_far =
    let rest = result_lines (results (drop (suc k) tasks)) in
    let next : suc k ≡ k + 1 = omega arith in
    let left : result_lines (results (drop k tasks)) ≡ more ++ rest =
    ap (λ ts. result_lines (results ts)) (drop_at tasks k t found) ∙ ap (λ x. x ++ rest) (ap result_line (sym is) ∙ sym line) in
    ap (λ j. (made ++ more) ++ result_lines (results (drop j tasks))) (sym next) ∙ (append_assoc made more rest ∙ (ap (λ x. made ++ x) (sym left) ∙ so_far))

-- a run that has ended has as many tasks as before
pub tasks_stay : (entries : List ℕ) (c after : Crew) (given : Input) → (run_of entries c given).crew ≡ begun after → length after.tasks ≡ length c.tasks
tasks_stay entries c after given e = ap (λ (x : Crew). length x.tasks) (sym e) ∙ run_counts entries c given

-- and so the sets that are asked of reach still stand behind the numbers of tasks
pub tasks_are : (entries : List ℕ) (c after : Crew) (given : Input) (tasks : ℕ) (asked : List (ℕ × List ℕ)) → tasks ≡ length c.tasks → (run_of entries c given).crew ≡ begun after → AreTasks tasks asked → AreTasks (length after.tasks) asked
tasks_are entries c after given tasks asked is e h = subst (λ (n : ℕ). AreTasks n asked) (is ∙ sym (tasks_stay entries c after given e)) h
