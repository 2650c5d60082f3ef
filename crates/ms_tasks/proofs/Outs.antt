-- A run put together: the start functions, then the tasks.
use Rattle.std.proofs.Common.{◌≡◌, ◌≤◌, ◌+◌, ◌-◌, ℕ, zero, suc, List, [], ◌∷◌, drop, length, map, take, refl, sym, ap, subst, ◌∙◌, arith}
use Rattle.std.specs.List.{All}
use Rattle.std.proofs.lemmas.List.Elements.{All-nil, All-weaker}
use Rattle.ms_handle.specs.declared.handle.Handle.{Handle}
use Rattle.ms_segment.specs.Memory.{IsFit}
use Rattle.ms_machine.specs.Crews.{turns_from}
use Rattle.ms_machine.specs.refinement.Holding.{ThreadFits}
use Rattle.ms_machine.specs.Store.{Store}
use Rattle.ms_machine.specs.Typing.{Outline, TaskTyped, outline_of}
use Rattle.ms_machine.proofs.HeldFits.{thread_fits_grows}
use Rattle.ms_task.specs.Thread.{Thread}
use Rattle.ms_task.specs.refinement.View.{thread_of}
use Rattle.ms_task.specs.declared.task.Task.{Task as CodeTask}
use Rattle.ms_tasks.specs.refinement.Ready.{IsReady}
use Rattle.ms_tasks.specs.refinement.Rows.{threads_in}
use Rattle.ms_tasks.specs.Alone.{by_only}
use Rattle.ms_tasks.specs.refinement.Schedules.{AreThere, HasEntries, entries_of, first_of, part_of, some_of}
use Rattle.ms_tasks.proofs.Only.{drop_by_only, length_by_only}
use Rattle.ms_tasks.specs.declared.schedule.Schedule.{Schedule}
use Rattle.ms_tasks.specs.declared.schedule.Entries.{Entries}
use Rattle.ms_tasks.specs.declared.schedule.Entries.TheVariants.{Listed, Turns}
use Rattle.ms_tasks.proofs.Listing.{drop_take}

-- ---- entries

pub length_turns : (q n i count : ℕ) → length (turns_from q n i count) ≡ count
length_turns q n i zero = refl
length_turns q n i (suc count) = ap suc (length_turns q n (suc i) count)

drop_turns : (q n j count i : ℕ) → i ≤ count → drop i (turns_from q n j count) ≡ turns_from q n (j + i) (count - i)
drop_turns q n j count zero within =
    let e : j ≡ j + 0 = omega arith in
    let f : count ≡ count - 0 = omega arith in
    ap (λ x. turns_from q n x count) e ∙ ap (turns_from q n (j + 0)) f
drop_turns q n j zero (suc i) within = absurd (omega (arith, within))
drop_turns q n j (suc count) (suc i) within =
    let e : suc j + i ≡ j + suc i = omega arith in
    let f : count - i ≡ suc count - suc i = omega arith in
    drop_turns q n (suc j) count i (omega (arith, within)) ∙ (ap (λ x. turns_from q n x (count - i)) e ∙ ap (turns_from q n (j + suc i)) f)

listed_at_most : (b : ℕ) (xs : List ℕ) → length (take b xs) ≤ length xs
listed_at_most zero xs = omega arith
listed_at_most (suc b) [] = omega arith
listed_at_most (suc b) (x ∷ xs) = let e = listed_at_most b xs in omega (arith, e)

whole_take : (b : ℕ) (xs : List ℕ) → take b xs ≡ take (length (take b xs)) xs
whole_take zero xs = refl
whole_take (suc b) [] = refl
whole_take (suc b) (x ∷ xs) = ap (λ ys. x ∷ ys) (whole_take b xs)

-- what is left of a schedule is a part of it
some_is : (entries : Entries) (n budget from most : ℕ) → from + most ≡ length (first_of entries n budget) → drop from (first_of entries n budget) ≡ some_of entries n from most
some_is (Turns q) n budget from most all =
    let e = length_turns q n 0 budget in
    let f : 0 + from ≡ from = omega arith in
    let h : budget - from ≡ most = omega (arith, all, e) in
    drop_turns q n 0 budget from (omega (arith, all, e)) ∙ (ap (λ x. turns_from q n x (budget - from)) f ∙ ap (turns_from q n from) h)
some_is (Listed entries) n budget from most all =
    let xs = entries.items in
    let h : length (take budget xs) - from ≡ most = omega (arith, all) in
    ap (drop from) (whole_take budget xs) ∙ (drop_take from (length (take budget xs)) xs ∙ ap (λ m. take m (drop from xs)) h)

pub part_is : (schedule : Schedule) (n budget from most : ℕ) → from + most ≡ length (entries_of schedule n budget) → drop from (entries_of schedule n budget) ≡ part_of schedule n from most
part_is schedule n budget from most all =
    let some = some_is schedule.entries n budget from most (all ∙ length_by_only schedule.only n (first_of schedule.entries n budget)) in
    drop_by_only schedule.only n from (first_of schedule.entries n budget) ∙ ap (by_only schedule.only n) some

are_there : (entries : Entries) (n budget most : ℕ) → most ≡ length (first_of entries n budget) → AreThere entries most
are_there (Turns q) n budget most is = tt
are_there (Listed entries) n budget most is = let e = listed_at_most budget entries.items in omega (arith, e, is)

pub has_entries : (schedule : Schedule) (n budget most : ℕ) → most ≡ length (entries_of schedule n budget) → HasEntries schedule most
has_entries schedule n budget most is = are_there schedule.entries n budget most (is ∙ length_by_only schedule.only n (first_of schedule.entries n budget))

-- ---- crews

pub threads_stay : (s s' : Store) (tasks : List CodeTask) → outline_of s' ≡ outline_of s → threads_in s tasks ≡ threads_in s' tasks
threads_stay s s' tasks outline = ap (λ (o : Outline). map (thread_of o.funcs) tasks) (sym outline)

pub tasks_stay_ready : (s s' : Store) (chain chain' ts : List Thread) → IsReady (record { store = s; chain = chain; tasks = ts }) → IsReady (record { store = s'; chain = chain'; tasks = [] }) → outline_of s' ≡ outline_of s → ((h : Handle) → IsFit s.segments h → IsFit s'.segments h) → IsReady (record { store = s'; chain = chain'; tasks = ts })
tasks_stay_ready s s' chain chain' ts before after outline others = record {
  store = after.store;
  chain = after.chain;
  tasks = subst (λ (o : Outline). All (TaskTyped o) ts) (sym outline) before.tasks;
  store_fits = after.store_fits;
  chain_fits = after.chain_fits;
  tasks_fit = All-weaker (ThreadFits s) (ThreadFits s') (λ u. thread_fits_grows s s' u others) ts before.tasks_fit;
}

pub chain_stays_ready : (s s' : Store) (chain ts ts' : List Thread) → IsReady (record { store = s; chain = chain; tasks = ts }) → IsReady (record { store = s'; chain = []; tasks = ts' }) → outline_of s' ≡ outline_of s → ((h : Handle) → IsFit s.segments h → IsFit s'.segments h) → IsReady (record { store = s'; chain = chain; tasks = ts' })
chain_stays_ready s s' chain ts ts' before after outline others = record {
  store = after.store;
  chain = subst (λ (o : Outline). All (TaskTyped o) chain) (sym outline) before.chain;
  tasks = after.tasks;
  store_fits = after.store_fits;
  chain_fits = All-weaker (ThreadFits s) (ThreadFits s') (λ u. thread_fits_grows s s' u others) chain before.chain_fits;
  tasks_fit = after.tasks_fit;
}

pub only_tasks : (s : Store) (chain ts : List Thread) → IsReady (record { store = s; chain = chain; tasks = ts }) → IsReady (record { store = s; chain = []; tasks = ts })
only_tasks s chain ts ready = record {
  store = ready.store;
  chain = All-nil (TaskTyped (outline_of s));
  tasks = ready.tasks;
  store_fits = ready.store_fits;
  chain_fits = All-nil (ThreadFits s);
  tasks_fit = ready.tasks_fit;
}
