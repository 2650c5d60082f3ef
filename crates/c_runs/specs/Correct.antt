-- What is said of the run of a compiled unit.
use Rattle.std.specs.Prelude.{◌≡◌, ◌≢◌, ℕ, ◌+◌, ◌*◌, ◌≤◌, Bool, true, false, List, [], ◌∷◌, ◌++◌, option_and_then, replicate, slice_get, Option, Some, None}
use Rattle.ms_event.specs.Monitor.{grants, sizes_of}
use Rattle.ms_machine.specs.Crews as crews
use Rattle.ms_machine.specs.Crews.{Input, OutOfBudget, Run, Start, Task, Whose, bytes_of, events_of, run_of}
use Rattle.ms_machine.specs.Running.{AreBytes, func_thread}
use Rattle.ms_machine.specs.Store.{Store}
use Rattle.ms_tasks.specs.Tasks.{crew_of}
use Rattle.c_types.specs.Types.{Ty, void, integer}
use Rattle.c_typed.specs.Tree.{Function, Typed}
use Rattle.c_meaning.specs.Functions.{result_of}
use Rattle.c_meaning.specs.Units.{before_main, first_world, main_number, means}
use Rattle.c_meaning.specs.World.{End, Result, World, ends, gives, lost, out_of_fuel, result}
use Rattle.c_runs.specs.Crews.{reported}
use Rattle.c_runs.specs.Ends.{stop_of}
use Rattle.c_runs.specs.Placed.{longest_of, started_of}
use Rattle.c_runs.specs.Words.{left}

abbrev pub IsPrefix : List ℕ → List ℕ → Type 0
IsPrefix a b = (c : List ℕ) × (b ≡ a ++ c)

abbrev pub result_in : Option Function → Ty
result_in None = void
result_in (Some f) = result_of f.ty

-- the type of the result of `main`
abbrev pub main_result : Typed → Ty
main_result u = result_in (option_and_then (slice_get u.functions) (main_number u))

-- a result that a task may have
abbrev pub gives_integer : Ty → Bool
gives_integer void = true
gives_integer (integer t) = true
gives_integer _ = false

-- whose a trap is: the start function's, where what stands at file scope is made and initialised, and then the task's, of `main`
abbrev pub whose_of : Result (Unit {0}) → Whose
whose_of (gives tt w) = Task 0
whose_of (ends e w) = Start

-- how the machine reports an end of a `main` that gives this type
abbrev pub Reports : Ty → Whose → End → crews.End → Type 0
Reports t whose (result (Some v)) end = end ≡ crews.Results (slice_get (left t v) 0 ∷ [])
Reports t whose (result None) end = end ≡ crews.Results (None ∷ [])
Reports t whose e end = reported whose (stop_of e) end

-- the meaning over the same input, with what the run was granted: the end, and the world then
abbrev pub meant : Typed → Input → Run → (fuel : ℕ) → End × World
meant u input run fuel = means u input (grants (events_of run.deeds)) fuel

-- and what comes of it before `main`
abbrev pub meant_first : Typed → Input → Run → (fuel : ℕ) → Result (Unit {0})
meant_first u input run fuel = before_main u (first_world u input (grants (events_of run.deeds)) fuel)

-- a run of the unit within a budget, over this input, does what is meant
pub record MeansRun (u : Typed) (input : Input) (budget : ℕ) (run : Run) : Type 0 where
  -- the sizes that it asks for are those of the meaning with as much fuel
  pub sizes : sizes_of (events_of run.deeds) ≡ (meant u input run budget).1.sizes
  -- where it has ended, it has the output and the end of the meaning
  pub output : run.end ≢ OutOfBudget → bytes_of run.deeds ≡ (meant u input run budget).1.output
  pub end : run.end ≢ OutOfBudget → Reports (main_result u) (whose_of (meant_first u input run budget)) (meant u input run budget).0 run.end
  -- out of budget it has printed a prefix
  pub prints : run.end ≡ OutOfBudget → IsPrefix (bytes_of run.deeds) (meant u input run budget).1.output
  -- the meaning is never lost, with whatever fuel
  pub defined : (fuel : ℕ) → (meant u input run fuel).0 ≢ lost
  -- with a budget of this it is out of it only where the meaning is out of fuel
  pub bound : (fuel : ℕ) → started_of u + longest_of u * (fuel + 1) ≤ budget → run.end ≡ OutOfBudget → (meant u input run fuel).0 ≡ out_of_fuel

-- the run of the task of the function at an address, behind the start function
abbrev pub run_at : Store → (address : ℕ) → Input → (budget : ℕ) → Run
run_at s address input budget = run_of (replicate budget 0) (crew_of s (func_thread s address ∷ [])) input

-- each run of the unit's `main`, which stands at an address of a store
abbrev pub Behaves : Typed → Store → (main : ℕ) → Type 0
Behaves u s main = (input : Input) → AreBytes input → (budget : ℕ) → MeansRun u input budget (run_at s main input budget)
