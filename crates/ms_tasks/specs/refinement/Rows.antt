-- The crews that the code of start functions and tasks goes over.
use Rattle.std.specs.Prelude.{◌≡◌, ◌≢◌, ◌<◌, ℕ, ◌+◌, ◌*◌, ◌%◌, List, [], map, Option, Some, None}
use Rattle.ms_machine.specs.Crews.{Crew, ahead}
use Rattle.ms_machine.specs.Store.{Store}
use Rattle.ms_task.specs.Thread.{Thread}
use Rattle.ms_task.specs.refinement.View.{thread_of}
use Rattle.ms_task.specs.declared.task.Task.{Task as CodeTask}

abbrev pub threads_in : Store → List CodeTask → List Thread
threads_in s tasks = map (thread_of s.funcs) tasks

-- the crew of these tasks, where the start functions have ended
abbrev pub crew_in : Store → List CodeTask → Crew
crew_in s tasks = record { store = s; chain = []; tasks = threads_in s tasks }

-- the crew of these start functions, before these tasks
abbrev pub chain_in : Store → List CodeTask → List Thread → Crew
chain_in s chain tasks = record { store = s; chain = threads_in s chain; tasks = tasks }

-- with these start functions, of which those that have ended in front are left out
abbrev pub begun_with : Store → List Thread → List Thread → Crew
begun_with s chain tasks = record { store = s; chain = ahead chain; tasks = tasks }

abbrev pub all_in : Store → List CodeTask → List CodeTask → Crew
all_in s chain tasks = record { store = s; chain = threads_in s chain; tasks = threads_in s tasks }

-- a task that has ended, or isn't there
abbrev pub IsIdle : Option Thread → Type 0
IsIdle None = Unit {0}
IsIdle (Some t) = t.work ≡ []

-- a task that is there and has more to do
abbrev pub IsGoing : Option Thread → Type 0
IsGoing None = ⊥
IsGoing (Some t) = t.work ≢ []

-- the place of an entry in a schedule of turns: in the turn of this task, of which so many entries are left
pub record IsInTurn (q tasks i k room : ℕ) : Type 0 where
  pub turn : ℕ
  pub place : ℕ
  pub i_is : i ≡ turn * q + place
  pub k_is : k ≡ turn % tasks
  pub room_is : place + room ≡ q
  pub some : 0 < room
  pub below : k < tasks
