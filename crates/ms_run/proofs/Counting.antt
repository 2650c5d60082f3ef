-- A run keeps the number of tasks.
use Rattle.std.proofs.Common.{◌≡◌, ◌∙◌, ℕ, List, [], ◌∷◌, length, slice_get, Option, Some, None, refl}
use Rattle.std.proofs.lemmas.List.{length-set}
use Rattle.ms_task.specs.Thread.{Thread}
use Rattle.ms_machine.specs.Store.{Store}
use Rattle.ms_machine.specs.Crews.{Crew, Input, OutOfBudget, Results, Run, Start, Task, Whose, begun, behind, ends, is_over, moved, passed, results, run_entries, run_of, task_turn, turn, with_start, with_task}
use Rattle.ms_machine.specs.Moves as moves
use Rattle.ms_machine.specs.Moves.{Goes, Move, move_of, rest_of}
use Rattle.ms_tasks.proofs.Keeping.{by_work_has, cond_has}

module _ (n : ℕ) where
  abbrev Counts : Run → Type 0
  Counts r = length r.crew.tasks ≡ n

  abbrev Going : (Crew → Input → Run) → Type 0
  Going go = (c : Crew) (rest : Input) → length c.tasks ≡ n → Counts (go c rest)

  moved_counts : (whose : Whose) (m : Move) (c : Crew) (input : Input) (next : Store → Thread → Crew) (go : Crew → Input → Run) → length c.tasks ≡ n → ((s : Store) (t : Thread) → length (next s t).tasks ≡ n) → Going go → Counts (moved whose m c input next go)
  moved_counts whose (Goes s t took put event) c input next go now later goes = goes (next s t) (rest_of took input) (later s t)
  moved_counts whose (moves.Trap trap) c input next go now later goes = now
  moved_counts whose moves.Stuck c input next go now later goes = now

  turn_counts : (chain : List Thread) (k : ℕ) (c : Crew) (input : Input) (go : Crew → Input → Run) → length c.tasks ≡ n → Going go → Counts (turn chain k c input go)
  turn_counts (t ∷ ts) k c input go now goes = moved_counts Start (move_of c.store t input) c input (with_start c ts) go now (λ s t. now) goes
  turn_counts [] k c input go now goes = by (slice_get c.tasks k) where
    by : (o : Option Thread) → Counts (task_turn o k c input go)
    by None = goes c input now
    by (Some t) =
        by_work_has Counts t.work (behind passed (go c input)) (moved (Task k) (move_of c.store t input) c input (with_task c k) go) (goes c input now)
        (λ going. moved_counts (Task k) (move_of c.store t input) c input (with_task c k) go now (λ s u. length-set c.tasks k u ∙ now) goes)

  entries_count : (ks : List ℕ) (c : Crew) (input : Input) → length c.tasks ≡ n → Counts (run_entries ks c input)
  entries_count [] c input now = cond_has Counts (is_over c.chain c.tasks) (ends (Results (results c.tasks)) c input) (ends OutOfBudget c input) now now
  entries_count (k ∷ ks) c input now =
      cond_has Counts (is_over c.chain c.tasks) (ends (Results (results c.tasks)) c input) (turn c.chain k c input (run_entries ks)) now
      (turn_counts c.chain k c input (run_entries ks) now (entries_count ks))

pub run_counts : (entries : List ℕ) (c : Crew) (input : Input) → length (run_of entries c input).crew.tasks ≡ length c.tasks
run_counts entries c input = entries_count (length c.tasks) entries (begun c) input refl
