-- A run of several tasks, each an invocation (WebAssembly 1.0, 4.5.5) behind the start functions (4.5.4), by a schedule: a list of
-- entries, each of which names a task. An entry is one step at most.
use Rattle.std.specs.Prelude.{ℕ, zero, suc, ◌+◌, ◌/◌, ◌%◌, Bool, true, false, if◌then◌else◌, List, [], ◌∷◌, ◌++◌, map, slice_get, slice_set, Option, Some, None}
use Rattle.ms_event.specs.declared.event.Event.{Event}
use Rattle.ms_host.specs.declared.trap.TrapKind.{TrapKind}
use Rattle.ms_linear.specs.declared.value.Value.{Value}
use Rattle.ms_task.specs.Thread.{Item, Thread}
use Rattle.ms_machine.specs.Moves as moves
use Rattle.ms_machine.specs.Moves.{Goes, Move, move_of, rest_of}
use Rattle.ms_machine.specs.Store.{Store}

-- ---- a crew: a store, the start functions that have not ended, and the tasks

pub record Crew : Type 0 where
  pub store : Store
  pub chain : List Thread
  pub tasks : List Thread

-- by whether something is left to do
abbrev pub by_work : {A : Type 0} → List Item → (ended going : A) → A
by_work [] ended going = ended
by_work (i ∷ w) ended going = going

-- without the ones in front that have ended
abbrev pub ahead : List Thread → List Thread
ahead [] = []
ahead (t ∷ ts) = by_work t.work (ahead ts) (t ∷ ts)

abbrev pub are_ended : List Thread → Bool
are_ended [] = true
are_ended (t ∷ ts) = by_work t.work (are_ended ts) false

-- whether the start functions and all tasks have ended
abbrev pub is_over : (chain tasks : List Thread) → Bool
is_over [] tasks = are_ended tasks
is_over (t ∷ ts) tasks = false

-- ---- what happened, and whose step it was

pub data Whose : Type 0 where
  -- a start function's
  Start : Whose
  -- the task's of this number
  Task : ℕ → Whose

pub record Deeds : Type 0 where
  pub puts : List (Whose × ℕ)
  pub events : List (Whose × Event)
  -- who took input, be it a byte or the end
  pub takes : List Whose
  -- how many entries were used
  pub used : ℕ

abbrev pub nothing : Deeds
nothing = record { puts = []; events = []; takes = []; used = 0 }

abbrev pub both : Deeds → Deeds → Deeds
both d e = record { puts = d.puts ++ e.puts; events = d.events ++ e.events; takes = d.takes ++ e.takes; used = d.used + e.used }

abbrev pub marked : {A : Type 0} → Whose → Option A → List (Whose × A)
marked whose None = []
marked whose (Some x) = (whose, x) ∷ []

abbrev pub takers : Whose → (took : Bool) → List Whose
takers whose true = whose ∷ []
takers whose false = []

-- one entry
abbrev pub deed : Whose → (took : Bool) → (put : Option ℕ) → Option Event → Deeds
deed whose took put event = record { puts = marked whose put; events = marked whose event; takes = takers whose took; used = 1 }

-- an entry for a task that has ended, or isn't there
abbrev pub passed : Deeds
passed = record { puts = []; events = []; takes = []; used = 1 }

-- the bytes and the events, in order
abbrev pub bytes_of : Deeds → List ℕ
bytes_of d = map (λ p. p.1) d.puts

abbrev pub events_of : Deeds → List Event
events_of d = map (λ p. p.1) d.events

-- ---- a run

pub data End : Type 0 where
  -- nothing is left to do; what each task left, if anything
  Results : List (Option Value) → End
  -- an instruction stopped the program
  Trap : Whose → TrapKind → End
  -- the entries are used up
  OutOfBudget : End
  -- an instruction found no operand, label or function; no well-typed task comes to this
  Stuck : End

-- the input is what its takes give: a byte or the end each, and the end behind them
abbrev pub Input : Type 0
Input = List (Option ℕ)

pub record Run : Type 0 where
  pub deeds : Deeds
  pub end : End
  -- what is left of the input, and the crew afterwards
  pub input : Input
  pub crew : Crew

abbrev pub ends : End → Crew → Input → Run
ends end c input = record { deeds = nothing; end = end; input = input; crew = c }

abbrev pub behind : Deeds → Run → Run
behind d r = record { deeds = both d r.deeds; end = r.end; input = r.input; crew = r.crew }

abbrev pub results : List Thread → List (Option Value)
results = map (λ t. slice_get t.operands 0)

-- a step that traps uses up its entry, and changes nothing
abbrev pub moved : Whose → Move → Crew → Input → (Store → Thread → Crew) → (Crew → Input → Run) → Run
moved whose (Goes s t took put event) c input next go = behind (deed whose took put event) (go (next s t) (rest_of took input))
moved whose (moves.Trap kind) c input next go = behind passed (ends (Trap whose kind) c input)
moved whose moves.Stuck c input next go = behind passed (ends Stuck c input)

-- the crew after a step of the first start function, behind which the others stand
abbrev pub with_start : Crew → List Thread → Store → Thread → Crew
with_start c ts s t = record { store = s; chain = ahead (t ∷ ts); tasks = c.tasks }

-- after a step of a task
abbrev pub with_task : Crew → ℕ → Store → Thread → Crew
with_task c k s t = record { store = s; chain = c.chain; tasks = slice_set c.tasks k t }

abbrev pub task_turn : Option Thread → ℕ → Crew → Input → (Crew → Input → Run) → Run
task_turn None k c input go = behind passed (go c input)
task_turn (Some t) k c input go = by_work t.work (behind passed (go c input)) (moved (Task k) (move_of c.store t input) c input (with_task c k) go)

-- one entry: of the start functions the first, whatever the entry names; else the task of this number
abbrev pub turn : (chain : List Thread) → ℕ → Crew → Input → (Crew → Input → Run) → Run
turn [] k c input go = task_turn (slice_get c.tasks k) k c input go
turn (t ∷ ts) k c input go = moved Start (move_of c.store t input) c input (with_start c ts) go

abbrev pub run_entries : (entries : List ℕ) → Crew → Input → Run
run_entries [] c input = if is_over c.chain c.tasks then ends (Results (results c.tasks)) c input else ends OutOfBudget c input
run_entries (k ∷ ks) c input = if is_over c.chain c.tasks then ends (Results (results c.tasks)) c input else turn c.chain k c input (run_entries ks)

-- ---- schedules

-- so many entries from the i-th on: each task has q in a row
abbrev pub turns_from : (q tasks i count : ℕ) → List ℕ
turns_from q n i zero = []
turns_from q n i (suc count) = ((i / q) % n) ∷ turns_from q n (suc i) count

-- ---- the start of a run

abbrev pub begun : Crew → Crew
begun c = record { store = c.store; chain = ahead c.chain; tasks = c.tasks }

abbrev pub run_of : (entries : List ℕ) → Crew → Input → Run
run_of entries c input = run_entries entries (begun c) input
