-- What was put of an execution, by what linking and the making of a crew answered.
use Rattle.std.proofs.Common.{◌≡◌, ◌∙◌, ℕ, suc, List, [], ◌∷◌, length, refl, sym, ap, subst}
use Rattle.std.specs.Prelude.{Option, Some, None, Result, Ok, Err}
use Rattle.ms_module.specs.declared.module.Module.{Module}
use Rattle.ms_task.specs.Thread.{Thread}
use Rattle.ms_machine.specs.Crews.{Crew, Input, run_of}
use Rattle.ms_machine.specs.Externs.{Fault}
use Rattle.ms_machine.specs.Linked.{linked}
use Rattle.ms_machine.specs.Store.{Store}
use Rattle.ms_link.proofs.Stores.{linked_made}
use Rattle.ms_tasks.specs.Tasks.{IsCrewOf, and_thread, task_address, thread_at, threads_from}
use Rattle.ms_tasks.specs.refinement.Schedules.{entries_of}
use Rattle.ms_tasks.specs.declared.schedule.Schedule.{Schedule}
use Rattle.ms_run.specs.Executions.{Execution, NoTask, Ran, Unlinked, execution, if_linked, in_store, with_threads}
use Rattle.ms_run.specs.Flows.{IsQuiet, TellsEnd, TellsExecution, nothing_printed, refused, run_printed}
use Rattle.ms_run.specs.Lines.{link_line, task_line}
use Rattle.ms_run.specs.Observed.{Flow, Report, Shelved}
use Rattle.ms_run.specs.Reporting.{KeepsFiles, Reports}
use Rattle.ms_run.specs.Telling.{Inquiry}
use Rattle.ms_run.specs.declared.status.Status.{Status}
use Rattle.ms_run.specs.declared.status.Status.TheVariants.{Refused}

-- ---- the crew of a store has a thread for each task

same_threads : (a b : List Thread) → ◌≡◌ {A = Result (List Thread) ℕ} (Ok a) (Ok b) → a ≡ b
same_threads a b e = cc

threads_length : (s : Store) (tasks : List (ℕ × List ℕ)) (number : ℕ) (threads : List Thread) → threads_from s tasks number ≡ Ok threads → length threads ≡ length tasks
threads_length s [] number threads e = ap length (sym (same_threads [] threads e))
threads_length s (t ∷ ts) number threads e =
    by (λ us is. threads_length s ts (suc number) us is) (thread_at s (task_address s t.0 t.1)) (threads_from s ts (suc number)) refl e
  where
    by : ((us : List Thread) → threads_from s ts (suc number) ≡ Ok us → length us ≡ length ts) → (o : Option Thread) (r : Result (List Thread) ℕ) → threads_from s ts (suc number) ≡ r → and_thread o number r ≡ Ok threads → length threads ≡ suc (length ts)
    by rest None r is e = absurd cc
    by rest (Some u) (Ok us) is e = ap length (sym (same_threads (u ∷ us) threads e)) ∙ ap suc (rest us is)
    by rest (Some u) (Err other) is e = absurd cc

pub crew_length : (s : Store) (tasks : List (ℕ × List ℕ)) (c : Crew) → IsCrewOf s tasks c → length c.tasks ≡ length tasks
crew_length s tasks c (threads, found, is) = ap (λ (x : Crew). length x.tasks) is ∙ threads_length s tasks 0 threads found

pub crew_made : (s : Store) (tasks : List (ℕ × List ℕ)) (c : Crew) → IsCrewOf s tasks c → c.store.segments.made ≡ s.segments.made
crew_made s tasks c (threads, found, is) = ap (λ (x : Crew). x.store.segments.made) is

-- ---- the store of linked modules has made no segment

pub linked_none_made : (modules : List (List ℕ × Module)) (capacity : ℕ) (s : Store) → linked modules capacity ≡ Ok s → s.segments.made ≡ 0
linked_none_made modules capacity s e = let made = linked_made modules capacity s e in ap (λ (x : Store). x.segments.made) (sym made.2)

-- ---- what was told

module _ (asked : Inquiry) (s : Shelved) (r : Report) (f : Flow) where
  same_printed : (e e' : Input → Execution) → ((given : Input) → e' given ≡ e given) → (result : Status) → TellsExecution asked e s r f result → TellsExecution asked e' s r f result
  same_printed e e' same result (refused x line is answers still files reports) = refused x line (λ given. same given ∙ is given) answers still files reports
  same_printed e e' same result (run_printed runs is tell) = run_printed runs (λ given. same given ∙ is given) tell
  same_printed e e' same result (nothing_printed still files kept) = nothing_printed still files kept

  -- the entries are those of a schedule for so many tasks
  pub crew_printed : (tasks : List (ℕ × List ℕ)) (schedule : Schedule) (budget : ℕ) (store : Store) (c : Crew) → IsCrewOf store tasks c → (result : Status) → TellsEnd asked (run_of (entries_of schedule (length c.tasks) budget) c) s r f result
      → TellsExecution asked (in_store tasks (entries_of schedule (length tasks) budget) store) s r f result
  crew_printed tasks schedule budget store c (threads, found, is) result tell =
      let entries = entries_of schedule (length tasks) budget in
      run_printed (run_of entries c) (λ given. ap (with_threads entries store given) found ∙ ap (λ (x : Crew). Ran (run_of entries x given)) (sym is))
      (subst (λ n. TellsEnd asked (run_of (entries_of schedule n budget) c) s r f result) (crew_length store tasks c (threads, found, is)) tell)

  module _ (tasks : List (ℕ × List ℕ)) (entries : List ℕ) where
    pub no_task_printed : (store : Store) (number : ℕ) → threads_from store tasks 0 ≡ Err number → IsQuiet f → (result : Status) → KeepsFiles s → Reports Refused (task_line number) r result → TellsExecution asked (in_store tasks entries store) s r f result
    no_task_printed store number found still result files reports = refused (NoTask number) (task_line number) (λ given. ap (with_threads entries store given) found) (refl, refl) still files reports

    module _ (modules : List (List ℕ × Module)) (capacity : ℕ) where
      pub linked_printed : (store : Store) → linked modules capacity ≡ Ok store → (result : Status) → TellsExecution asked (in_store tasks entries store) s r f result → TellsExecution asked (execution modules tasks entries capacity) s r f result
      linked_printed store e result tell = same_printed (in_store tasks entries store) (execution modules tasks entries capacity) (λ given. ap (if_linked tasks entries given) e) result tell

      pub unlinked_printed : (fault : Fault) → linked modules capacity ≡ Err fault → IsQuiet f → (result : Status) → KeepsFiles s → Reports Refused (link_line fault) r result → TellsExecution asked (execution modules tasks entries capacity) s r f result
      unlinked_printed fault e still result files reports = refused (Unlinked fault) (link_line fault) (λ given. ap (if_linked tasks entries given) e) (refl, refl) still files reports
