-- A run counts the accesses that its events are, whatever the schedule.
use Rattle.std.proofs.Common.{◌≡◌, ℕ, List, [], ◌∷◌, ◌++◌, slice_get, Option, Some, None, refl, sym, ap, ◌∙◌}
use Rattle.ms_event.specs.declared.event.Event.{Event}
use Rattle.ms_task.specs.Thread.{Thread}
use Rattle.ms_machine.specs.refinement.Accesses.{counted, counted_all}
use Rattle.ms_machine.specs.Crews.{Crew, Deeds, Input, Run, Start, Task, Whose, begun, behind, deed, events_of, is_over, moved, passed, run_entries, run_of, task_turn, turn, with_start, with_task}
use Rattle.ms_machine.specs.Moves as moves
use Rattle.ms_machine.specs.Moves.{Goes, Move, first_of, move_of, rest_of}
use Rattle.ms_machine.specs.Store.{Store}
use Rattle.ms_machine.proofs.Counting.{move_counts}
use Rattle.ms_tasks.proofs.Deeds.{both_events, deed_events}
use Rattle.ms_tasks.proofs.Keeping.{by_work_has, cond_has}

counted_both : (es fs : List Event) (n : ℕ) → counted_all (es ++ fs) n ≡ counted_all fs (counted_all es n)
counted_both [] fs n = refl
counted_both (e ∷ es) fs n = counted_both es fs (counted e n)

-- how often the segment memory of a crew was accessed
abbrev pub accesses_in : Crew → ℕ
accesses_in c = c.store.segments.accesses

-- the count afterwards is that of the run's events, from this one on
abbrev pub RunCounts : ℕ → Run → Type 0
RunCounts n r = accesses_in r.crew ≡ counted_all (events_of r.deeds) n

behind_counts : (n m : ℕ) (d : Deeds) (r : Run) → m ≡ counted_all (events_of d) n → RunCounts m r → RunCounts n (behind d r)
behind_counts n m d r is counts =
    counts
    ∙ ap (counted_all (events_of r.deeds)) is
    ∙ sym (counted_both (events_of d) (events_of r.deeds) n)
    ∙ ap (λ (es : List Event). counted_all es n) (sym (both_events d r.deeds))

quiet_counts : (n : ℕ) (r : Run) → RunCounts n r → RunCounts n (behind passed r)
quiet_counts n r counts = behind_counts n n passed r refl counts

-- where what follows each step counts
moved_counts : (whose : Whose) (c : Crew) (t : Thread) (input : Input) (next : Store → Thread → Crew) (go : Crew → Input → Run) → ((s' : Store) (t' : Thread) → (next s' t').store ≡ s') → ((c' : Crew) (input' : Input) → RunCounts (accesses_in c') (go c' input'))
    → (m : Move) → move_of c.store t input ≡ m → RunCounts (accesses_in c) (moved whose m c input next go)
moved_counts whose c t input next go same goes (Goes s' t' took put event) is =
    behind_counts (accesses_in c) (accesses_in (next s' t')) (deed whose took put event) (go (next s' t') (rest_of took input))
    (
    ap (λ (s : Store). s.segments.accesses) (same s' t')
    ∙ move_counts c.store s' t t' (first_of input) took put event is
    ∙ ap (λ (es : List Event). counted_all es (accesses_in c)) (sym (deed_events whose took put event))
    )
    (goes (next s' t') (rest_of took input))
moved_counts whose c t input next go same goes (moves.Trap trap) is = refl
moved_counts whose c t input next go same goes moves.Stuck is = refl

task_counts : (k : ℕ) (c : Crew) (input : Input) (go : Crew → Input → Run) → ((c' : Crew) (input' : Input) → RunCounts (accesses_in c') (go c' input')) → (o : Option Thread) → RunCounts (accesses_in c) (task_turn o k c input go)
task_counts k c input go goes None = quiet_counts (accesses_in c) (go c input) (goes c input)
task_counts k c input go goes (Some t) =
    by_work_has (RunCounts (accesses_in c)) t.work (behind passed (go c input)) (moved (Task k) (move_of c.store t input) c input (with_task c k) go) (quiet_counts (accesses_in c) (go c input) (goes c input))
    (λ going. moved_counts (Task k) c t input (with_task c k) go (λ s' t'. refl) goes (move_of c.store t input) refl)

turn_counts : (k : ℕ) (c : Crew) (input : Input) (go : Crew → Input → Run) → ((c' : Crew) (input' : Input) → RunCounts (accesses_in c') (go c' input')) → (chain : List Thread) → RunCounts (accesses_in c) (turn chain k c input go)
turn_counts k c input go goes [] = task_counts k c input go goes (slice_get c.tasks k)
turn_counts k c input go goes (t ∷ ts) = moved_counts Start c t input (with_start c ts) go (λ s' t'. refl) goes (move_of c.store t input) refl

entries_count : (ks : List ℕ) (c : Crew) (input : Input) → RunCounts (accesses_in c) (run_entries ks c input)
entries_count [] c input = cond_has (RunCounts (accesses_in c)) (is_over c.chain c.tasks) _ _ refl refl
entries_count (k ∷ ks) c input =
    cond_has (RunCounts (accesses_in c)) (is_over c.chain c.tasks) _ _ refl (turn_counts k c input (run_entries ks) (entries_count ks) c.chain)

pub run_counts : (ks : List ℕ) (c : Crew) (input : Input) → RunCounts (accesses_in c) (run_of ks c input)
run_counts ks c input = entries_count ks (begun c) input
