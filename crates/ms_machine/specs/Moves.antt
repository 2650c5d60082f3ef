-- One step of a thread on the store (WebAssembly 1.0, 4.4) and the outside: what it takes from the input, and what it puts to the output.
use Rattle.std.specs.Prelude.{◌≡◌, ℕ, Bool, true, false, List, [], ◌∷◌, Option, Some, None}
use Rattle.ms_event.specs.declared.event.Event.{Event}
use Rattle.ms_host.specs.declared.trap.TrapKind.{TrapKind}
use Rattle.ms_task.specs.Control.{exited as exited_thread}
use Rattle.ms_task.specs.Thread.{Thread, thread}
use Rattle.ms_machine.specs.Hosting as hosting
use Rattle.ms_machine.specs.Hosting.{host_on, takes}
use Rattle.ms_machine.specs.Step as step
use Rattle.ms_machine.specs.Step.{Calls, Next, Outcome, step_of}
use Rattle.ms_machine.specs.Store.{Store}

pub data Move : Type 0 where
  -- this store and this thread are there afterwards; whether a byte was taken, which was put, and what has happened
  Goes : Store → Thread → (took : Bool) → (put : Option ℕ) → Option Event → Move
  -- the program is stopped, and nothing has changed
  Trap : TrapKind → Move
  -- what the instruction takes isn't there
  Stuck : Move

-- a call of the host goes on behind the call with what the host gave
abbrev pub hosted : Store → Thread → (took : Bool) → hosting.Effect → Move
hosted s t took (hosting.Gives vs put) = Goes s (exited_thread (thread t.frame vs t.work)) took put None
hosted s t took (hosting.Trap kind) = Trap kind
hosted s t took hosting.Stuck = Stuck

abbrev pub move_on : Store → (got : Option ℕ) → Outcome → Move
move_on s got (Next s' t' event) = Goes s' t' false None event
move_on s got (Calls h t) = hosted s t (takes h) (host_on h got t.operands)
move_on s got (step.Trap kind) = Trap kind
move_on s got step.Stuck = Stuck

-- the step where a take gives this byte, or the end
abbrev pub move_for : Store → Thread → (got : Option ℕ) → Move
move_for s t got = move_on s got (step_of s t)

-- ---- over an input: what its takes give, a byte or the end each; behind that there is the end

abbrev pub first_of : List (Option ℕ) → Option ℕ
first_of [] = None
first_of (got ∷ later) = got

abbrev pub rest_of : (took : Bool) → List (Option ℕ) → List (Option ℕ)
rest_of true (got ∷ later) = later
rest_of took input = input

abbrev pub move_of : Store → Thread → (input : List (Option ℕ)) → Move
move_of s t input = move_for s t (first_of input)

-- ---- whether a step takes a byte, and which one it puts

abbrev pub IsTaking : Move → Type 0
IsTaking (Goes s t took put event) = took ≡ true
IsTaking _ = ⊥

abbrev pub IsPutting : ℕ → Move → Type 0
IsPutting byte (Goes s t took put event) = put ≡ Some byte
IsPutting byte _ = ⊥
