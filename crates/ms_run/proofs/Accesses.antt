-- How many accesses a run's segment memory has counted: as many as there are reads and writes among its events, which are as few as its
-- entries.
use Rattle.std.proofs.Common.{◌≡◌, ◌∙◌, ◌+◌, ◌<◌, ◌≤◌, ℕ, suc, List, [], ◌∷◌, length, slice_get, Option, Some, None, filter, ap, arith}
use Rattle.std.proofs.lemmas.List.{length-append}
use Rattle.std.proofs.lemmas.List.Sums.{count_by-le-length, length-filter}
use Rattle.ms_event.specs.declared.event.Event.{Event}
use Rattle.ms_event.specs.declared.event.Event.TheVariants as events
use Rattle.ms_task.specs.Thread.{Thread}
use Rattle.ms_segment.specs.Memory.{risen}
use Rattle.ms_machine.specs.refinement.Accesses.{counted_all}
use Rattle.ms_machine.specs.Crews.{Crew, Deeds, Input, OutOfBudget, Results, Run, Start, Task, Whose, begun, behind, deed, ends, events_of, is_over, moved, passed, results, run_entries, run_of, task_turn, turn, with_start, with_task}
use Rattle.ms_machine.specs.Moves as moves
use Rattle.ms_machine.specs.Moves.{Goes, Move, move_of, rest_of}
use Rattle.ms_machine.specs.Running.{with_event}
use Rattle.ms_machine.specs.Store.{Store}
use Rattle.ms_tasks.proofs.Deeds.{both_events, deed_events}
use Rattle.ms_tasks.proofs.Keeping.{by_work_has, cond_has}
use Rattle.ms_run.specs.SafeRuns.{is_access}

-- ---- the count of an access never stands still

rises : (n : ℕ) → n < 18446744073709551615 → risen n ≡ suc n
rises n below = omega arith

counts : (es : List Event) (n : ℕ) → n + length (filter is_access es) ≤ 18446744073709551615 → counted_all es n ≡ n + length (filter is_access es)
counts [] n few = omega arith
counts (events.Read sealed id lo hi address width ∷ es) n few =
    ap (counted_all es) (rises n (omega arith)) ∙ (counts es (suc n) (omega arith) ∙ omega arith)
counts (events.Write id lo hi address width ∷ es) n few =
    ap (counted_all es) (rises n (omega arith)) ∙ (counts es (suc n) (omega arith) ∙ omega arith)
counts (events.Alloc id address size ∷ es) n few = counts es n (omega arith)
counts (events.Refused size ∷ es) n few = counts es n (omega arith)
counts (events.Seal id lo hi ∷ es) n few = counts es n (omega arith)
counts (events.Slice sealed id lo hi lo' hi' ∷ es) n few = counts es n (omega arith)
counts (events.Free id ∷ es) n few = counts es n (omega arith)

-- ---- an entry makes one event at most

abbrev IsFew : ℕ → Run → Type 0
IsFew n r = length (events_of r.deeds) ≤ n

behind_few : (n : ℕ) (d : Deeds) (r : Run) → length (events_of d) ≤ 1 → IsFew n r → IsFew (suc n) (behind d r)
behind_few n d r one few =
    let both = ap length (both_events d r.deeds) ∙ length-append (events_of d) (events_of r.deeds) in omega (arith, both, one, few)

one_event : (event : Option Event) → length (with_event event []) ≤ 1
one_event None = omega arith
one_event (Some e) = omega arith

module _ (n : ℕ) where
  abbrev AreFew : (Crew → Input → Run) → Type 0
  AreFew go = (c : Crew) (rest : Input) → IsFew n (go c rest)

  moved_few : (whose : Whose) (m : Move) (c : Crew) (input : Input) (next : Store → Thread → Crew) (go : Crew → Input → Run) → AreFew go → IsFew (suc n) (moved whose m c input next go)
  moved_few whose (Goes s t took put event) c input next go few =
      let one = ap length (deed_events whose took put event) in
      let least = one_event event in
      behind_few n (deed whose took put event) (go (next s t) (rest_of took input)) (omega (arith, one, least)) (few (next s t) (rest_of took input))
  moved_few whose (moves.Trap trap) c input next go few = omega arith
  moved_few whose moves.Stuck c input next go few = omega arith

  passed_few : (c : Crew) (input : Input) (go : Crew → Input → Run) → AreFew go → IsFew (suc n) (behind passed (go c input))
  passed_few c input go few = behind_few n passed (go c input) (omega arith) (few c input)

  turn_few : (chain : List Thread) (k : ℕ) (c : Crew) (input : Input) (go : Crew → Input → Run) → AreFew go → IsFew (suc n) (turn chain k c input go)
  turn_few (t ∷ ts) k c input go few = moved_few Start (move_of c.store t input) c input (with_start c ts) go few
  turn_few [] k c input go few = by (slice_get c.tasks k) where
    by : (o : Option Thread) → IsFew (suc n) (task_turn o k c input go)
    by None = passed_few c input go few
    by (Some t) =
        by_work_has (IsFew (suc n)) t.work (behind passed (go c input)) (moved (Task k) (move_of c.store t input) c input (with_task c k) go) (passed_few c input go few)
        (λ going. moved_few (Task k) (move_of c.store t input) c input (with_task c k) go few)

few_events : (ks : List ℕ) (c : Crew) (input : Input) → IsFew (length ks) (run_entries ks c input)
few_events [] c input = cond_has (IsFew 0) (is_over c.chain c.tasks) (ends (Results (results c.tasks)) c input) (ends OutOfBudget c input) (omega arith) (omega arith)
few_events (k ∷ ks) c input =
    cond_has (IsFew (suc (length ks))) (is_over c.chain c.tasks) (ends (Results (results c.tasks)) c input) (turn c.chain k c input (run_entries ks)) (omega arith)
    (turn_few (length ks) c.chain k c input (run_entries ks) (few_events ks))

pub run_few : (entries : List ℕ) (c : Crew) (input : Input) → length (events_of (run_of entries c input).deeds) ≤ length entries
run_few entries c input = few_events entries (begun c) input

-- the count from none on, where the entries are less than the last value of a u64
pub counts_exactly : (es : List Event) → length es < 18446744073709551615 → counted_all es 0 ≡ length (filter is_access es)
counts_exactly es few =
    let same = length-filter is_access es in
    let least = count_by-le-length is_access es in
    counts es 0 (omega (arith, few, least, same)) ∙ omega arith
