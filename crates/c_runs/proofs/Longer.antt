-- Longer runs of a thread go on as shorter ones do; and the run of a crew of one task.
use Rattle.std.proofs.Common.{◌≡◌, ℕ, zero, suc, ◌≤◌, Bool, List, [], ◌∷◌, ◌++◌, replicate, Option, Some, None, refl, sym, ap, ◌∙◌, arith, append-nil}
use Rattle.std.specs.Prelude.{slice_get}
use Rattle.ms_event.specs.declared.event.Event.{Event}
use Rattle.ms_linear.specs.declared.value.Value.{Value}
use Rattle.ms_machine.specs.Crews as crews
use Rattle.ms_machine.specs.Crews.{Crew, Input, Run, Start, Task, Whose, deed, moved, run_entries, with_start, with_task}
use Rattle.ms_machine.specs.Moves as moves
use Rattle.ms_machine.specs.Moves.{Goes, Move, move_of, rest_of}
use Rattle.ms_machine.specs.Running.{with_event}
use Rattle.ms_machine.specs.Store.{Store}
use Rattle.ms_task.specs.Thread.{Frame, Item, Thread, thread}
use Rattle.c_runs.specs.Threads.{Ended, Trapped, Paused, Stuck, Stop, Ran, ran, before, after_move, steps, steps_to, with_put}
use Rattle.c_runs.specs.Crews.{Extends, Same, Shows, crew_behind, crew_end, crew_of_one, reported, steps_behind, then_steps, whose_at}

extends_same : (r : Ran) → Extends r r
extends_same r = record { puts = []; events = []; puts_are = sym (append-nil r.puts); events_are = sym (append-nil r.events); over = λ n. refl }

extends_paused : (r : Ran) → Extends (ran Paused) r
extends_paused r = record { puts = r.puts; events = r.events; puts_are = refl; events_are = refl; over = λ n. absurd (n refl) }

put_append : (put : Option ℕ) (a b : List ℕ) → with_put put (a ++ b) ≡ with_put put a ++ b
put_append None a b = refl
put_append (Some p) a b = refl

event_append : (event : Option Event) (a b : List Event) → with_event event (a ++ b) ≡ with_event event a ++ b
event_append None a b = refl
event_append (Some e) a b = refl

extends_before : (put : Option ℕ) (event : Option Event) (r r' : Ran) → Extends r r' → Extends (before put event r) (before put event r')
extends_before put event r r' x = record {
  puts = x.puts;
  events = x.events;
  puts_are = ap (with_put put) x.puts_are ∙ put_append put r.puts x.puts;
  events_are = ap (with_event event) x.events_are ∙ event_append event r.events x.events;
  over = λ n. ap (before put event) (x.over n);
}

extends_move : (mv : Move) (input : Input) (go go' : Store → Thread → Input → Ran) → ((s : Store) (t : Thread) (i : Input) → Extends (go s t i) (go' s t i)) → Extends (after_move mv input go) (after_move mv input go')
extends_move (Goes s t took put event) input go go' h = extends_before put event (go s t (rest_of took input)) (go' s t (rest_of took input)) (h s t (rest_of took input))
extends_move (moves.Trap k) input go go' h = extends_same (ran (Trapped k))
extends_move moves.Stuck input go go' h = extends_same (ran Stuck)

pub longer_at : (n m : ℕ) → n ≤ m → (s : Store) (input : Input) (fr : Frame) (vs : List Value) (w : List Item) → Extends (steps n s (thread fr vs w) input) (steps m s (thread fr vs w) input)
longer_at zero zero le s input fr vs w = extends_same (steps 0 s (thread fr vs w) input)
longer_at zero (suc m) le s input fr vs [] = extends_same (ran (Ended (slice_get vs 0)))
longer_at zero (suc m) le s input fr vs (i ∷ w) = extends_paused (steps (suc m) s (thread fr vs (i ∷ w)) input)
longer_at (suc n) zero le s input fr vs w = absurd (omega (arith, le))
longer_at (suc n) (suc m) le s input fr vs [] = extends_same (ran (Ended (slice_get vs 0)))
longer_at (suc n) (suc m) le s input fr vs (i ∷ w) = extends_move (move_of s (thread fr vs (i ∷ w)) input) input (steps n) (steps m) (λ s' t' i'. longer_at n m (omega (arith, le)) s' i' t'.frame t'.operands t'.work)

pub longer : (n m : ℕ) → n ≤ m → (s : Store) (t : Thread) (input : Input) → Extends (steps n s t input) (steps m s t input)
longer n m le s t input = longer_at n m le s input t.frame t.operands t.work

-- ---- a crew of one task

same_before : (took : Bool) (put : Option ℕ) (event : Option Event) (r : Run) (q : Ran) → Same r q → Same (crews.behind (deed (Task 0) took put event) r) (before put event q)
same_before took None None r q h = record { bytes = h.bytes; events = h.events; ends = h.ends }
same_before took (Some b) None r q h = record { bytes = ap (λ (l : List ℕ). b ∷ l) h.bytes; events = h.events; ends = h.ends }
same_before took None (Some e) r q h = record { bytes = h.bytes; events = ap (λ (l : List Event). e ∷ l) h.events; ends = h.ends }
same_before took (Some b) (Some e) r q h = record { bytes = ap (λ (l : List ℕ). b ∷ l) h.bytes; events = ap (λ (l : List Event). e ∷ l) h.events; ends = h.ends }

same_move : (mv : Move) (s : Store) (t : Thread) (input : Input) (go : Crew → Input → Run) (go' : Store → Thread → Input → Ran) → ((s' : Store) (t' : Thread) (i : Input) → Same (go (crew_of_one s' t') i) (go' s' t' i))
    → Same (moved (Task 0) mv (crew_of_one s t) input (with_task (crew_of_one s t) 0) go) (after_move mv input go')
same_move (Goes s' t' took put event) s t input go go' h = same_before took put event (go (crew_of_one s' t') (rest_of took input)) (go' s' t' (rest_of took input)) (h s' t' (rest_of took input))
same_move (moves.Trap k) s t input go go' h = record { bytes = refl; events = refl; ends = refl }
same_move moves.Stuck s t input go go' h = record { bytes = refl; events = refl; ends = refl }

same_at : (n : ℕ) (s : Store) (input : Input) (fr : Frame) (vs : List Value) (w : List Item) → Same (run_entries (replicate n 0) (crew_of_one s (thread fr vs w)) input) (steps n s (thread fr vs w) input)
same_at zero s input fr vs [] = record { bytes = refl; events = refl; ends = refl }
same_at zero s input fr vs (i ∷ w) = record { bytes = refl; events = refl; ends = refl }
same_at (suc n) s input fr vs [] = record { bytes = refl; events = refl; ends = refl }
same_at (suc n) s input fr vs (i ∷ w) =
    same_move (move_of s (thread fr vs (i ∷ w)) input) s (thread fr vs (i ∷ w)) input (run_entries (replicate n 0)) (steps n) (λ s' t' i'. same_at n s' i' t'.frame t'.operands t'.work)

pub same_run : (n : ℕ) (s : Store) (t : Thread) (input : Input) → Same (run_entries (replicate n 0) (crew_of_one s t) input) (steps n s t input)
same_run n s t input = same_at n s input t.frame t.operands t.work

-- ---- behind a start function

extends_last : (last : ℕ → Store → Option Value → Input → Ran) → ((n m : ℕ) → n ≤ m → (s : Store) (v : Option Value) (input : Input) → Extends (last n s v input) (last m s v input))
    → (n m : ℕ) → n ≤ m → (s : Store) (input : Input) (fr : Frame) (vs : List Value) (w : List Item) → Extends (steps_to last n s (thread fr vs w) input) (steps_to last m s (thread fr vs w) input)
extends_last last h zero zero le s input fr vs w = extends_same (steps_to last 0 s (thread fr vs w) input)
extends_last last h zero (suc m) le s input fr vs [] = h 0 (suc m) le s (slice_get vs 0) input
extends_last last h zero (suc m) le s input fr vs (i ∷ w) = extends_paused (steps_to last (suc m) s (thread fr vs (i ∷ w)) input)
extends_last last h (suc n) zero le s input fr vs w = absurd (omega (arith, le))
extends_last last h (suc n) (suc m) le s input fr vs [] = h (suc n) (suc m) le s (slice_get vs 0) input
extends_last last h (suc n) (suc m) le s input fr vs (i ∷ w) =
    extends_move (move_of s (thread fr vs (i ∷ w)) input) input (steps_to last n) (steps_to last m) (λ s' t' i'. extends_last last h n m (omega (arith, le)) s' i' t'.frame t'.operands t'.work)

pub longer_behind : (start t : Thread) (n m : ℕ) → n ≤ m → (s : Store) (input : Input) → Extends (steps_behind start t n s input) (steps_behind start t m s input)
longer_behind start t n m le s input = extends_last (then_steps t) (λ a b le' s' v i. longer a b le' s' t i) n m le s input start.frame start.operands start.work

-- what the steps of the first thread tell is told in front of what goes on behind its end, and where they are used up all are
pub record Foretells (q r : Ran) : Type 0 where
  pub later : List Event
  pub events : r.events ≡ q.events ++ later
  pub waits : q.stop ≡ Paused → r.stop ≡ Paused

foretells_same : (r : Ran) → Foretells r r
foretells_same r = record { later = []; events = sym (append-nil r.events); waits = λ e. e }

foretells_end : (v : Option Value) (r : Ran) → Foretells (ran (Ended v)) r
foretells_end v r = record { later = r.events; events = refl; waits = λ e. absurd cc }

foretells_before : (put : Option ℕ) (event : Option Event) (q r : Ran) → Foretells q r → Foretells (before put event q) (before put event r)
foretells_before put event q r h = record { later = h.later; events = ap (with_event event) h.events ∙ event_append event q.events h.later; waits = h.waits }

foretells_move : (mv : Move) (input : Input) (go go' : Store → Thread → Input → Ran) → ((s : Store) (t : Thread) (i : Input) → Foretells (go s t i) (go' s t i)) → Foretells (after_move mv input go) (after_move mv input go')
foretells_move (Goes s t took put event) input go go' h = foretells_before put event (go s t (rest_of took input)) (go' s t (rest_of took input)) (h s t (rest_of took input))
foretells_move (moves.Trap k) input go go' h = foretells_same (ran (Trapped k))
foretells_move moves.Stuck input go go' h = foretells_same (ran Stuck)

foretells_at : (last : ℕ → Store → Option Value → Input → Ran) (n : ℕ) (s : Store) (input : Input) (fr : Frame) (vs : List Value) (w : List Item) → Foretells (steps n s (thread fr vs w) input) (steps_to last n s (thread fr vs w) input)
foretells_at last zero s input fr vs [] = foretells_end (slice_get vs 0) (last 0 s (slice_get vs 0) input)
foretells_at last zero s input fr vs (i ∷ w) = foretells_same (ran Paused)
foretells_at last (suc n) s input fr vs [] = foretells_end (slice_get vs 0) (last (suc n) s (slice_get vs 0) input)
foretells_at last (suc n) s input fr vs (i ∷ w) =
    foretells_move (move_of s (thread fr vs (i ∷ w)) input) input (steps n) (steps_to last n) (λ s' t' i'. foretells_at last n s' i' t'.frame t'.operands t'.work)

pub foretells : (start t : Thread) (n : ℕ) (s : Store) (input : Input) → Foretells (steps n s start input) (steps_behind start t n s input)
foretells start t n s input = foretells_at (then_steps t) n s input start.frame start.operands start.work

-- ---- the run of the crew

as_shown : (r : Run) (q : Ran) → Same r q → Shows r (Task 0) q
as_shown r q h = record { bytes = h.bytes; events = h.events; ends = by q.stop h.ends } where
  by : (st : Stop) → r.end ≡ crew_end st → reported (Task 0) st r.end
  by (Ended v) e = e
  by (Trapped k) e = e
  by Paused e = e
  by Stuck e = e

shows_before : (took : Bool) (put : Option ℕ) (event : Option Event) (r : Run) (whose : Whose) (q : Ran) → Shows r whose q → Shows (crews.behind (deed Start took put event) r) whose (before put event q)
shows_before took None None r whose q h = record { bytes = h.bytes; events = h.events; ends = h.ends }
shows_before took (Some b) None r whose q h = record { bytes = ap (λ (l : List ℕ). b ∷ l) h.bytes; events = h.events; ends = h.ends }
shows_before took None (Some e) r whose q h = record { bytes = h.bytes; events = ap (λ (l : List Event). e ∷ l) h.events; ends = h.ends }
shows_before took (Some b) (Some e) r whose q h = record { bytes = ap (λ (l : List ℕ). b ∷ l) h.bytes; events = ap (λ (l : List Event). e ∷ l) h.events; ends = h.ends }

-- the run of the crew, the steps of the start function alone, and all
shows_move : (mv : Move) (s : Store) (c : Crew) (t : Thread) (input : Input) (go : Crew → Input → Run) (alone go' : Store → Thread → Input → Ran) → c.tasks ≡ t ∷ []
    → ((s' : Store) (t' : Thread) (i : Input) → Shows (go (with_start c [] s' t') i) (whose_at (alone s' t' i).stop) (go' s' t' i))
    → Shows (moved Start mv c input (with_start c []) go) (whose_at (after_move mv input alone).stop) (after_move mv input go')
shows_move (Goes s' t' took put event) s c t input go alone go' e h =
    let i = rest_of took input in shows_before took put event (go (with_start c [] s' t') i) (whose_at (alone s' t' i).stop) (go' s' t' i) (h s' t' i)
shows_move (moves.Trap k) s c t input go alone go' e h = record { bytes = refl; events = refl; ends = refl }
shows_move moves.Stuck s c t input go alone go' e h = record { bytes = refl; events = refl; ends = refl }

shows_at : (t : Thread) (n : ℕ) (s : Store) (input : Input) (fr : Frame) (vs : List Value) (w : List Item)
    → Shows (run_entries (replicate n 0) (crew_behind s (thread fr vs w) t) input) (whose_at (steps n s (thread fr vs w) input).stop) (steps_behind (thread fr vs w) t n s input)
shows_at t zero s input fr vs [] = as_shown (run_entries [] (crew_of_one s t) input) (steps 0 s t input) (same_run 0 s t input)
shows_at t zero s input fr vs (i ∷ w) = record { bytes = refl; events = refl; ends = refl }
shows_at t (suc n) s input fr vs [] = as_shown (run_entries (replicate (suc n) 0) (crew_of_one s t) input) (steps (suc n) s t input) (same_run (suc n) s t input)
shows_at t (suc n) s input fr vs (i ∷ w) =
    shows_move (move_of s (thread fr vs (i ∷ w)) input) s (crew_behind s (thread fr vs (i ∷ w)) t) t input (run_entries (replicate n 0)) (steps n) (steps_to (then_steps t) n) refl (λ s' t' i'. shows_at t n s' i' t'.frame t'.operands t'.work)

-- a run of the crew tells what so many steps do
pub shows_behind : (start t : Thread) (n : ℕ) (s : Store) (input : Input) → Shows (run_entries (replicate n 0) (crew_behind s start t) input) (whose_at (steps n s start input).stop) (steps_behind start t n s input)
shows_behind start t n s input = shows_at t n s input start.frame start.operands start.work
