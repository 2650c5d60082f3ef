-- What is asked of a run, along its steps: no other task takes input, and no segment that the task asks for is refused; nothing is asked of
-- start functions.
use Rattle.std.specs.Prelude.{◌≡◌, ◌==◌, ℕ, Bool, true, false, List, [], ◌∷◌, slice_get, Option, Some, None}
use Rattle.ms_event.specs.declared.event.Event.{Event}
use Rattle.ms_machine.specs.Crews.{Crew, Input, with_start, with_task}
use Rattle.ms_machine.specs.Moves as moves
use Rattle.ms_machine.specs.Moves.{Goes, Move, move_of, rest_of}
use Rattle.ms_task.specs.Thread.{Item, Thread}
use Rattle.ms_apart.specs.Runs.{IsGranted}

-- the step was refused no segment
abbrev pub WasGranted : Option Event → Type 0
WasGranted None = Unit {0}
WasGranted (Some event) = IsGranted event

abbrev pub IsCalm : (is_own : Bool) → (took : Bool) → Option Event → Type 0
IsCalm true took event = WasGranted event
IsCalm false took event = took ≡ false

-- a step of the task k, and then what goes on
abbrev pub CalmMove : (n k : ℕ) → Move → Crew → Input → (Crew → Input → Type 0) → Type 0
CalmMove n k (Goes s t took put event) c input go = IsCalm (k == n) took event × go (with_task c k s t) (rest_of took input)
CalmMove n k (moves.Trap how) c input go = Unit {0}
CalmMove n k moves.Stuck c input go = Unit {0}

abbrev pub CalmWork : (n k : ℕ) → List Item → Move → Crew → Input → (Crew → Input → Type 0) → Type 0
CalmWork n k [] m c input go = go c input
CalmWork n k (i ∷ w) m c input go = CalmMove n k m c input go

abbrev pub CalmTurn : (n k : ℕ) → Option Thread → Crew → Input → (Crew → Input → Type 0) → Type 0
CalmTurn n k None c input go = go c input
CalmTurn n k (Some t) c input go = CalmWork n k t.work (move_of c.store t input) c input go

-- a step of the first start function
abbrev pub CalmStart : Move → Crew → List Thread → Input → (Crew → Input → Type 0) → Type 0
CalmStart (Goes s t took put event) c ts input go = go (with_start c ts s t) (rest_of took input)
CalmStart (moves.Trap how) c ts input go = Unit {0}
CalmStart moves.Stuck c ts input go = Unit {0}

abbrev pub CalmEntry : (n k : ℕ) → (chain : List Thread) → Crew → Input → (Crew → Input → Type 0) → Type 0
CalmEntry n k [] c input go = CalmTurn n k (slice_get c.tasks k) c input go
CalmEntry n k (t ∷ ts) c input go = CalmStart (move_of c.store t input) c ts input go

abbrev pub Calm : (n : ℕ) → List ℕ → Crew → Input → Type 0
Calm n [] c input = Unit {0}
Calm n (k ∷ ks) c input = CalmEntry n k c.chain c input (Calm n ks)
