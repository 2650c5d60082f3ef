-- A run leaves of the input what it hasn't taken.
use Rattle.std.proofs.Common.{ℕ, List, [], ◌∷◌, slice_get, Option, Some, None}
use Rattle.ms_task.specs.Thread.{Thread}
use Rattle.ms_machine.specs.Crews.{Crew, Input, OutOfBudget, Results, Run, Start, Task, Whose, behind, ends, is_over, moved, passed, results, run_entries, task_turn, turn, with_start, with_task}
use Rattle.ms_machine.specs.Moves as moves
use Rattle.ms_machine.specs.Moves.{Goes, Move, move_of, rest_of}
use Rattle.ms_machine.specs.Running.{IsLeft}
use Rattle.ms_machine.specs.Store.{Store}
use Rattle.ms_machine.proofs.Outsides.{left_all, left_rest, left_trans}
use Rattle.ms_tasks.proofs.Keeping.{by_work_has, cond_has}

abbrev Leaves : Input → Run → Type 0
Leaves input r = IsLeft r.input input

moved_leaves : (whose : Whose) (m : Move) (c : Crew) (input : Input) (next : Store → Thread → Crew) (go : Crew → Input → Run) → ((c' : Crew) (rest : Input) → Leaves rest (go c' rest)) → Leaves input (moved whose m c input next go)
moved_leaves whose (Goes s t took put event) c input next go leaves =
    left_trans (go (next s t) (rest_of took input)).input (rest_of took input) input (leaves (next s t) (rest_of took input)) (left_rest took input)
moved_leaves whose (moves.Trap trap) c input next go leaves = left_all input
moved_leaves whose moves.Stuck c input next go leaves = left_all input

turn_leaves : (chain : List Thread) (k : ℕ) (c : Crew) (input : Input) (go : Crew → Input → Run) → ((c' : Crew) (rest : Input) → Leaves rest (go c' rest)) → Leaves input (turn chain k c input go)
turn_leaves (t ∷ ts) k c input go leaves = moved_leaves Start (move_of c.store t input) c input (with_start c ts) go leaves
turn_leaves [] k c input go leaves = by (slice_get c.tasks k) where
  by : (o : Option Thread) → Leaves input (task_turn o k c input go)
  by None = leaves c input
  by (Some t) =
      by_work_has (Leaves input) t.work (behind passed (go c input)) (moved (Task k) (move_of c.store t input) c input (with_task c k) go) (leaves c input)
      (λ going. moved_leaves (Task k) (move_of c.store t input) c input (with_task c k) go leaves)

pub run_leaves : (ks : List ℕ) (c : Crew) (input : Input) → Leaves input (run_entries ks c input)
run_leaves [] c input = cond_has (Leaves input) (is_over c.chain c.tasks) (ends (Results (results c.tasks)) c input) (ends OutOfBudget c input) (left_all input) (left_all input)
run_leaves (k ∷ ks) c input =
    cond_has (Leaves input) (is_over c.chain c.tasks) (ends (Results (results c.tasks)) c input) (turn c.chain k c input (run_entries ks)) (left_all input)
    (turn_leaves c.chain k c input (run_entries ks) (run_leaves ks))
