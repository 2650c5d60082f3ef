-- The start functions, as the code runs them.
use Rattle.std.proofs.Common.{◌≡◌, ◌≢◌, ◌≤◌, ◌-◌, ℕ, zero, suc, List, [], ◌∷◌, drop, length, slice_get, slice_set, Some, refl, sym, ap, subst, ◌∙◌, arith}
use Rattle.std.specs.List.{All}
use Rattle.std.proofs.lemmas.List.{length-drop}
use Rattle.std.proofs.lemmas.List.Elements.{All-nil, All-set, All-weaker}
use Rattle.ms_handle.specs.declared.handle.Handle.{Handle}
use Rattle.ms_segment.specs.Memory.{IsFit}
use Rattle.ms_machine.specs.Crews.{Crew, Input, OutOfBudget, Run, Start, ahead, ends, run_entries, with_start}
use Rattle.ms_machine.specs.Crews as crews
use Rattle.ms_machine.specs.refinement.Holding.{StoreFits, ThreadFits}
use Rattle.ms_machine.specs.Store.{Store}
use Rattle.ms_machine.specs.Typing.{Outline, StoreTyped, TaskTyped, outline_of}
use Rattle.ms_machine.proofs.HeldFits.{thread_fits_grows}
use Rattle.ms_machine.proofs.Outsides.{Content}
use Rattle.ms_task.specs.Thread.{Thread}
use Rattle.ms_task.specs.refinement.View.{thread_of}
use Rattle.ms_task.specs.declared.task.Task.{Task as CodeTask}
use Rattle.ms_tasks.specs.refinement.Logs.{Log}
use Rattle.ms_tasks.specs.refinement.Parts.{HaltsBy, ComesTo, IsWell}
use Rattle.ms_tasks.specs.refinement.Ready.{IsReady}
use Rattle.ms_tasks.specs.refinement.Rows.{begun_with, threads_in}
use Rattle.ms_tasks.specs.refinement.Steppers.{whose_of}
use Rattle.ms_tasks.specs.declared.burst.Halt.{Halt}
use Rattle.ms_tasks.specs.declared.burst.Halt.TheVariants as answers
use Rattle.ms_tasks.proofs.Coming.{answers_on, to_as, to_trans}
use Rattle.ms_tasks.proofs.EntryRuns.{when_ended, when_going}
use Rattle.ms_tasks.proofs.Rowing.{turn_end}
use Rattle.ms_tasks.proofs.Stepping.{entries_on}

drop_all : {A : Type 0} (n : ℕ) (xs : List A) → length xs ≤ n → drop n xs ≡ []
drop_all zero [] le = refl
drop_all (suc n) [] le = refl
drop_all zero (x ∷ xs) le = absurd (omega (arith, le))
drop_all (suc n) (x ∷ xs) le = drop_all n xs (omega (arith, le))

-- ---- those that have ended in front

abbrev pub IsOver : ℕ → List Thread → Type 0
IsOver zero ts = Unit {0}
IsOver (suc i) [] = Unit {0}
IsOver (suc i) (t ∷ ts) = (t.work ≡ []) × IsOver i ts

pub ahead_over : (i : ℕ) (ts : List Thread) → IsOver i ts → ahead ts ≡ ahead (drop i ts)
ahead_over zero ts over = refl
ahead_over (suc i) [] over = refl
ahead_over (suc i) (t ∷ ts) over = when_ended t.work (ahead ts) (t ∷ ts) over.0 ∙ ahead_over i ts over.1

pub over_set : (i : ℕ) (ts : List Thread) (t : Thread) → IsOver i ts → IsOver i (slice_set ts i t)
over_set zero ts t over = tt
over_set (suc i) [] t over = tt
over_set (suc i) (u ∷ ts) t over = (over.0, over_set i ts t over.1)

pub over_more : (i : ℕ) (ts : List Thread) (t : Thread) → slice_get ts i ≡ Some t → t.work ≡ [] → IsOver i ts → IsOver (suc i) ts
over_more zero [] t found ended over = tt
over_more zero (u ∷ ts) t found ended over = let same : u ≡ t = cc in (ap (λ (x : Thread). x.work) same ∙ ended, tt)
over_more (suc i) [] t found ended over = tt
over_more (suc i) (u ∷ ts) t found ended over = (over.0, over_more i ts t found ended over.1)

pub drop_at : {A : Type 0} (xs : List A) (i : ℕ) (x : A) → slice_get xs i ≡ Some x → drop i xs ≡ x ∷ drop (suc i) xs
drop_at [] i x found = cc
drop_at (y ∷ ys) zero x found = let same : y ≡ x = cc in ap (λ z. z ∷ ys) same
drop_at (y ∷ ys) (suc i) x found = drop_at ys i x found

pub drop_set : {A : Type 0} (xs : List A) (i : ℕ) (x : A) → drop (suc i) (slice_set xs i x) ≡ drop (suc i) xs
drop_set [] i x = refl
drop_set (y ∷ ys) zero x = refl
drop_set (y ∷ ys) (suc i) x = drop_set ys i x

pub drop_end : {A : Type 0} (n : ℕ) (xs : List A) → length xs ≤ n → drop n xs ≡ []
drop_end n xs le = drop_all n xs le

pub chain_after : (s s' : Store) (chain : List CodeTask) (i : ℕ) (task : CodeTask) → s'.funcs ≡ s.funcs → threads_in s' (slice_set chain i task) ≡ slice_set (threads_in s chain) i (thread_of s'.funcs task)
chain_after s s' chain i task same = sym (ap (λ (c : Crew). c.tasks) (turn_end s s' chain i task same))

pub chain_ready : (s s' : Store) (ts : List Thread) (i : ℕ) (t' : Thread) → IsReady (record { store = s; chain = ts; tasks = [] }) → outline_of s' ≡ outline_of s → TaskTyped (outline_of s') t' → StoreFits s' → ThreadFits s' t' → ((h : Handle) → IsFit s.segments h → IsFit s'.segments h) → IsReady (record { store = s'; chain = slice_set ts i t'; tasks = [] })
chain_ready s s' ts i t' ready outline task store fits others = record {
  store = subst StoreTyped (sym outline) ready.store;
  chain = All-set (TaskTyped (outline_of s')) ts i t' task (subst (λ (o : Outline). All (TaskTyped o) ts) (sym outline) ready.chain);
  tasks = All-nil (TaskTyped (outline_of s'));
  store_fits = store;
  chain_fits = All-set (ThreadFits s') ts i t' fits (All-weaker (ThreadFits s) (ThreadFits s') (λ u. thread_fits_grows s s' u others) ts ready.chain_fits);
  tasks_fit = All-nil (ThreadFits s');
}

-- ---- the first of them that goes on

pub left_entries : (ks : List ℕ) (most left : ℕ) → length ks ≡ most → left ≤ most → length (drop (most - left) ks) ≡ left
left_entries ks most left many within = let d = length-drop (most - left) ks in omega (arith, d, many, within)

-- It has ended, and the next one comes.
pub chain_ends : (l l' l'' h h' h'' : Content) (old log new : Log) (all : Input → Run) (ks : List ℕ) (most left rest : ℕ) (s s' : Store) (t t' : Thread) (ahead0 more more' tasks : List Thread) → left ≤ most → rest ≤ left → ahead0 ≡ t ∷ more → t'.work ≡ [] → more ≡ more'
    → ComesTo l l' h h' old log all (run_entries (drop (most - left) ks) (begun_with s ahead0 tasks))
    → ComesTo l' l'' h' h'' log new (run_entries (drop (most - left) ks) (begun_with s (t ∷ more) tasks)) (run_entries (drop (left - rest) (drop (most - left) ks)) (begun_with s' (t' ∷ more) tasks))
    → ComesTo l l'' h h'' old new all (run_entries (drop (most - rest) ks) (begun_with s' more' tasks))
chain_ends l l' l'' h h' h'' old log new all ks most left rest s s' t t' ahead0 more more' tasks within less front ended same first second =
    let mid = run_entries (drop (most - left) ks) (begun_with s (t ∷ more) tasks) in
    let here = subst (λ (x : List Thread). ComesTo l l' h h' old log all (run_entries (drop (most - left) ks) (begun_with s x tasks))) front first in
    let next : begun_with s' (t' ∷ more) tasks ≡ begun_with s' more' tasks = ap (λ (x : List Thread). let c : Crew = record { store = s'; chain = x; tasks = tasks } in c) (when_ended t'.work (ahead more) (t' ∷ more) ended ∙ ap ahead same) in
    subst (λ (c : Crew). ComesTo l l'' h h'' old new all (run_entries (drop (most - rest) ks) c)) next
    (subst (λ xs. ComesTo l l'' h h'' old new all (run_entries xs (begun_with s' (t' ∷ more) tasks))) (entries_on ks most left rest within less)
    (to_trans l l' l'' h h' h'' old log new all mid (run_entries (drop (left - rest) (drop (most - left) ks)) (begun_with s' (t' ∷ more) tasks)) here second))

stops : (a : Halt) (l l' h h' : Content) (old new : Log) (run ended ended' : Input → Run) (ks : List ℕ) (s' : Store) (t' : Thread) (more tasks : List Thread) (c' : Crew) → a ≢ answers.Ended → (a ≡ answers.Paused → (ks ≡ []) × (t'.work ≢ [])) → (IsWell a → begun_with s' (t' ∷ more) tasks ≡ c')
    → HaltsBy a run ended (run_entries ks (begun_with s' (t' ∷ more) tasks)) (begun_with s' (t' ∷ more) tasks) l l' h h' old new → HaltsBy a run ended' (ends OutOfBudget c') c' l l' h h' old new
stops answers.Ended l l' h h' old new run ended ended' ks s' t' more tasks c' not paused same is = absurd (not refl)
stops answers.Paused l l' h h' old new run ended ended' ks s' t' more tasks c' not paused same is =
    let end = begun_with s' (t' ∷ more) tasks in
    let p = paused refl in
    to_as l l' h h' old new run (run_entries ks end) (ends OutOfBudget c') is
    (λ rest.
    ap (λ xs. run_entries xs end rest) p.0
    ∙ (subst (λ (x : List Thread). run_entries [] (record { store = s'; chain = x; tasks = tasks }) rest ≡ ends OutOfBudget (record { store = s'; chain = x; tasks = tasks }) rest) (sym (when_going t'.work (ahead more) (t' ∷ more) p.1)) refl
    ∙ ap (λ (c : Crew). ends OutOfBudget c rest) (same tt)))
stops (answers.Trap whose why) l l' h h' old new run ended ended' ks s' t' more tasks c' not paused same is =
    subst (λ (c : Crew). ComesTo l l' h h' old new run (ends (crews.Trap (whose_of whose) why) c)) (same tt) is
stops answers.ReadFault l l' h h' old new run ended ended' ks s' t' more tasks c' not paused same is = is
stops answers.WriteFault l l' h h' old new run ended ended' ks s' t' more tasks c' not paused same is = is
stops answers.Memory l l' h h' old new run ended ended' ks s' t' more tasks c' not paused same is = is

-- Or it stops the run, with those that stand behind it.
pub chain_stops : (a : Halt) (l l' l'' h h' h'' : Content) (old log new : Log) (all ended : Input → Run) (ks : List ℕ) (most left : ℕ) (s s' : Store) (t t' : Thread) (ahead0 more chain' tasks : List Thread) → length ks ≡ most → left ≤ most → ahead0 ≡ t ∷ more → a ≢ answers.Ended → (a ≡ answers.Paused → t'.work ≢ []) → (IsWell a → ahead (t' ∷ more) ≡ ahead chain')
    → ComesTo l l' h h' old log all (run_entries (drop (most - left) ks) (begun_with s ahead0 tasks)) → (before : Input → Run)
    → HaltsBy a (run_entries (drop (most - left) ks) (begun_with s (t ∷ more) tasks)) before (run_entries (drop left (drop (most - left) ks)) (begun_with s' (t' ∷ more) tasks)) (begun_with s' (t' ∷ more) tasks) l' l'' h' h'' log new
    → HaltsBy a all ended (ends OutOfBudget (begun_with s' chain' tasks)) (begun_with s' chain' tasks) l l'' h h'' old new
chain_stops a l l' l'' h h' h'' old log new all ended ks most left s s' t t' ahead0 more chain' tasks many within front not paused same first before is =
    let c' = begun_with s' chain' tasks in
    let mid = run_entries (drop (most - left) ks) (begun_with s (t ∷ more) tasks) in
    let here = subst (λ (x : List Thread). ComesTo l l' h h' old log all (run_entries (drop (most - left) ks) (begun_with s x tasks))) front first in
    answers_on a l l' l'' h h' h'' old log new all mid ended (ends OutOfBudget c') c' here
    (stops a l' l'' h' h'' log new mid before ended (drop left (drop (most - left) ks)) s' t' more tasks c' not
    (λ is. (drop_all left (drop (most - left) ks) (let n = left_entries ks most left many within in omega (arith, n)), paused is))
    (λ well. ap (λ (x : List Thread). let c : Crew = record { store = s'; chain = x; tasks = tasks } in c) (same well)) is)
