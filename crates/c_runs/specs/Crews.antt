-- The run of a crew of one task, behind a start function, as the steps of their threads; and longer runs.
use Rattle.std.specs.Prelude.{◌≡◌, ◌≢◌, ℕ, List, [], ◌∷◌, ◌++◌, Option}
use Rattle.ms_event.specs.declared.event.Event.{Event}
use Rattle.ms_machine.specs.Crews as crews
use Rattle.ms_linear.specs.declared.value.Value.{Value}
use Rattle.ms_machine.specs.Crews.{Crew, Input, Run, Start, Task, Whose, ahead, bytes_of, events_of}
use Rattle.ms_machine.specs.Store.{Store}
use Rattle.ms_task.specs.Thread.{Thread}
use Rattle.c_runs.specs.Threads.{Ended, Paused, Ran, Stop, Stuck, Trapped, steps, steps_to}

abbrev pub crew_of_one : Store → Thread → Crew
crew_of_one s t = record { store = s; chain = []; tasks = t ∷ [] }

-- how a run of the crew ends where its thread stops so
abbrev pub crew_end : Stop → crews.End
crew_end (Ended v) = crews.Results (v ∷ [])
crew_end (Trapped k) = crews.Trap (Task 0) k
crew_end Paused = crews.OutOfBudget
crew_end Stuck = crews.Stuck

-- a run of the crew and so many steps of the thread tell the same
pub record Same (r : Run) (q : Ran) : Type 0 where
  pub bytes : bytes_of r.deeds ≡ q.puts
  pub events : events_of r.deeds ≡ q.events
  pub ends : r.end ≡ crew_end q.stop

-- the second goes on where the first was paused, and else is the first
pub record Extends (r r' : Ran) : Type 0 where
  pub puts : List ℕ
  pub events : List Event
  pub puts_are : r'.puts ≡ r.puts ++ puts
  pub events_are : r'.events ≡ r.events ++ events
  pub over : r.stop ≢ Paused → r' ≡ r

-- ---- behind a start function

abbrev pub crew_behind : Store → (start t : Thread) → Crew
crew_behind s start t = record { store = s; chain = ahead (start ∷ []); tasks = t ∷ [] }

abbrev pub then_steps : Thread → ℕ → Store → Option Value → Input → Ran
then_steps t n s v input = steps n s t input

-- the steps of the start function, and then those of the task
abbrev pub steps_behind : (start t : Thread) → ℕ → Store → Input → Ran
steps_behind start t n s input = steps_to (then_steps t) n s start input

-- whose a trap is where the start function has stopped so within its own steps: that function's, until it has ended
abbrev pub whose_at : Stop → Whose
whose_at (Ended v) = Task 0
whose_at st = Start

-- how a run of the crew ends where its threads stop so, and a trap is of this one
abbrev pub reported : Whose → Stop → crews.End → Type 0
reported whose (Trapped k) end = end ≡ crews.Trap whose k
reported whose st end = end ≡ crew_end st

pub record Shows (r : Run) (whose : Whose) (q : Ran) : Type 0 where
  pub bytes : bytes_of r.deeds ≡ q.puts
  pub events : events_of r.deeds ≡ q.events
  pub ends : reported whose q.stop r.end
