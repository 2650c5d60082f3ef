-- Which entries are steps of one thread, and which are passed over.
use Rattle.std.proofs.Common.{◌≡◌, ◌≢◌, ◌<◌, ◌≤◌, ◌+◌, ℕ, zero, suc, true, false, cond, List, [], ◌∷◌, ◌++◌, drop, length, replicate, slice_get, slice_set, Option, Some, None, refl, sym, ap, subst, ◌∙◌, arith}
use Rattle.ms_task.specs.Thread.{Item, Thread}
use Rattle.ms_machine.specs.Crews.{Crew, Deeds, Input, OutOfBudget, Results, Run, Start, Task, Whose, ahead, are_ended, behind, by_work, ends, moved, passed, results, run_entries, task_turn, turn, with_start, with_task}
use Rattle.ms_machine.specs.Crews as crews
use Rattle.ms_machine.specs.Moves as moves
use Rattle.ms_machine.specs.Moves.{Goes, Move, move_of, rest_of}
use Rattle.ms_machine.specs.Store.{Store}
use Rattle.ms_tasks.specs.refinement.Parts.{IsRow}
use Rattle.ms_tasks.specs.refinement.Rows.{IsIdle}
use Rattle.ms_tasks.proofs.Deeds.{behind_both, behind_nothing}

-- ---- by work

pub when_ended : {A : Type 0} (w : List Item) (ended going : A) → w ≡ [] → by_work w ended going ≡ ended
when_ended w ended going e = ap (λ x. by_work x ended going) e

pub when_going : {A : Type 0} (w : List Item) (ended going : A) → w ≢ [] → by_work w ended going ≡ going
when_going [] ended going e = absurd (e refl)
when_going (i ∷ w) ended going e = refl

-- ---- the first start function takes each entry, whatever that names

pub start_row : (c : Crew) (ts : List Thread) (n : ℕ) (ks : List ℕ) → n ≤ length ks → IsRow Start (with_start c ts) n ks
start_row c ts zero ks within = tt
start_row c ts (suc n) [] within = absurd (omega (arith, within))
start_row c ts (suc n) (k ∷ ks) within = (one, start_row c ts n ks (omega (arith, within))) where
  one : (s : Store) (t : Thread) (input : Input) → t.work ≢ [] → run_entries (k ∷ ks) (with_start c ts s t) input ≡ moved Start (move_of s t input) (with_start c ts s t) input (with_start c ts) (run_entries ks)
  one s t input going =
      let front : ahead (t ∷ ts) ≡ t ∷ ts = when_going t.work (ahead ts) (t ∷ ts) going in
      subst (λ (chain : List Thread). run_entries (k ∷ ks) (record { store = s; chain = chain; tasks = c.tasks }) input ≡ moved Start (move_of s t input) (record { store = s; chain = chain; tasks = c.tasks }) input (with_start c ts) (run_entries ks)) (sym front) refl

-- ---- a task, where the start functions have ended

abbrev pub with_only : List Thread → ℕ → Store → Thread → Crew
with_only tasks k s t = record { store = s; chain = []; tasks = slice_set tasks k t }

pub get_set : {A : Type 0} (xs : List A) (k : ℕ) (x : A) → k < length xs → slice_get (slice_set xs k x) k ≡ Some x
get_set [] k x lt = absurd (omega arith)
get_set (y ∷ ys) zero x lt = refl
get_set (y ∷ ys) (suc k) x lt = get_set ys k x (omega arith)

set_set : {A : Type 0} (xs : List A) (k : ℕ) (x y : A) → slice_set (slice_set xs k x) k y ≡ slice_set xs k y
set_set [] k x y = refl
set_set (z ∷ zs) zero x y = refl
set_set (z ∷ zs) (suc k) x y = ap (λ l. z ∷ l) (set_set zs k x y)

pub not_ended : (ts : List Thread) (k : ℕ) (t : Thread) → slice_get ts k ≡ Some t → t.work ≢ [] → are_ended ts ≡ false
not_ended [] k t found going = cc
not_ended (u ∷ us) zero t found going =
    let same : u ≡ t = cc in
    when_going u.work (are_ended us) false (subst (λ (x : Thread). x.work ≢ []) (sym same) going)
not_ended (u ∷ us) (suc k) t found going = by u.work (not_ended us k t found going) where
  by : (w : List Item) → are_ended us ≡ false → by_work w (are_ended us) false ≡ false
  by [] rest = rest
  by (i ∷ w) rest = refl

moved_same : (whose : Whose) (m : Move) (c : Crew) (input : Input) (next next' : Store → Thread → Crew) (go : Crew → Input → Run) → ((s : Store) (t : Thread) → next s t ≡ next' s t) → moved whose m c input next go ≡ moved whose m c input next' go
moved_same whose (Goes s t took put event) c input next next' go same = ap (λ x. behind (crews.deed whose took put event) (go x (rest_of took input))) (same s t)
moved_same whose (moves.Trap trap) c input next next' go same = refl
moved_same whose moves.Stuck c input next next' go same = refl

task_step : (tasks : List Thread) (n : ℕ) → n < length tasks → (rest : List ℕ) (s : Store) (t : Thread) (input : Input) → t.work ≢ [] → run_entries (n ∷ rest) (with_only tasks n s t) input ≡ moved (Task n) (move_of s t input) (with_only tasks n s t) input (with_only tasks n) (run_entries rest)
task_step tasks n lt rest s t input going =
    let c = with_only tasks n s t in
    let found : slice_get c.tasks n ≡ Some t = get_set tasks n t lt in
    ap (λ b. cond b (ends (Results (results c.tasks)) c input) (task_turn (slice_get c.tasks n) n c input (run_entries rest))) (not_ended c.tasks n t found going)
    ∙ (ap (λ o. task_turn o n c input (run_entries rest)) found
    ∙ (when_going t.work (behind passed (run_entries rest c input)) (moved (Task n) (move_of s t input) c input (with_task c n) (run_entries rest)) going
    ∙ moved_same (Task n) (move_of s t input) c input (with_task c n) (with_only tasks n) (run_entries rest) (λ s' t'. ap (λ (l : List Thread). record { store = s'; chain = []; tasks = l }) (set_set tasks n t t'))))

-- so many entries for it in a row
pub task_row : (tasks : List Thread) (k : ℕ) → k < length tasks → (m : ℕ) (rest : List ℕ) → IsRow (Task k) (with_only tasks k) m (replicate m k ++ rest)
task_row tasks k lt zero rest = tt
task_row tasks k lt (suc m) rest = (task_step tasks k lt (replicate m k ++ rest), task_row tasks k lt m rest)

pub drop_row : (u left m k : ℕ) (rest : List ℕ) → u + left ≡ m → drop u (replicate m k ++ rest) ≡ replicate left k ++ rest
drop_row zero left m k rest e = let same : m ≡ left = omega (arith, e) in ap (λ n. replicate n k ++ rest) same
drop_row (suc u) left zero k rest e = absurd (omega (arith, e))
drop_row (suc u) left (suc m) k rest e = drop_row u left m k rest (omega (arith, e))

-- ---- entries that are passed over

abbrev pub passes : ℕ → Deeds
passes n = record { puts = []; events = []; takes = []; used = n }

idle_turn : (o : Option Thread) (k : ℕ) (c : Crew) (input : Input) (go : Crew → Input → Run) → IsIdle o → task_turn o k c input go ≡ behind passed (go c input)
idle_turn None k c input go idle = refl
idle_turn (Some t) k c input go idle = when_ended t.work (behind passed (go c input)) (moved (Task k) (move_of c.store t input) c input (with_task c k) go) idle

pub idle_entries : (s : Store) (tasks : List Thread) (k m : ℕ) (rest : List ℕ) (input : Input) → IsIdle (slice_get tasks k) → are_ended tasks ≡ false → run_entries (replicate m k ++ rest) (record { store = s; chain = []; tasks = tasks }) input ≡ behind (passes m) (run_entries rest (record { store = s; chain = []; tasks = tasks }) input)
idle_entries s tasks k zero rest input idle going = sym (behind_nothing (run_entries rest (record { store = s; chain = []; tasks = tasks }) input))
idle_entries s tasks k (suc m) rest input idle going =
    let c : Crew = record { store = s; chain = []; tasks = tasks } in
    let r = run_entries rest c input in
    ap (λ b. cond b (ends (Results (results tasks)) c input) (task_turn (slice_get tasks k) k c input (run_entries (replicate m k ++ rest)))) going
    ∙ (idle_turn (slice_get tasks k) k c input (run_entries (replicate m k ++ rest)) idle
    ∙ (ap (behind passed) (idle_entries s tasks k m rest input idle going)
    ∙ (behind_both passed (passes m) r ∙ ap (λ (n : ℕ). behind (passes n) r) (let e : 1 + m ≡ suc m = omega arith in e))))

-- ---- when all have ended, no entry is used

pub over_entries : (ks : List ℕ) (s : Store) (tasks : List Thread) (input : Input) → are_ended tasks ≡ true → run_entries ks (record { store = s; chain = []; tasks = tasks }) input ≡ ends (Results (results tasks)) (record { store = s; chain = []; tasks = tasks }) input
over_entries [] s tasks input over =
    let c : Crew = record { store = s; chain = []; tasks = tasks } in
    ap (λ b. cond b (ends (Results (results tasks)) c input) (ends OutOfBudget c input)) over
over_entries (k ∷ ks) s tasks input over =
    let c : Crew = record { store = s; chain = []; tasks = tasks } in
    ap (λ b. cond b (ends (Results (results tasks)) c input) (turn [] k c input (run_entries ks))) over

-- ---- nor where there is none

pub no_entries : (s : Store) (tasks : List Thread) (input : Input) → are_ended tasks ≡ false → run_entries [] (record { store = s; chain = []; tasks = tasks }) input ≡ ends OutOfBudget (record { store = s; chain = []; tasks = tasks }) input
no_entries s tasks input going =
    let c : Crew = record { store = s; chain = []; tasks = tasks } in
    ap (λ b. cond b (ends (Results (results tasks)) c input) (ends OutOfBudget c input)) going
