-- What the making of a crew answers.
use Rattle.std.specs.Prelude.{◌≡◌, ℕ, List, Option, Some, None, Err}
use Rattle.ms_task.specs.refinement.View.{thread_of}
use Rattle.ms_task.specs.declared.task.Task.{Task as CodeTask}
use Rattle.ms_machine.specs.Crews.{Crew}
use Rattle.ms_machine.specs.Running.{func_thread}
use Rattle.ms_machine.specs.Store.{Store}
use Rattle.ms_tasks.specs.Tasks.{threads_from}
use Rattle.ms_tasks.specs.declared.ran.Ran.{Ran}
use Rattle.ms_tasks.specs.declared.ran.Ran.TheVariants as answers
use Rattle.ms_tasks.specs.declared.ran.Stop.{Stop}
use Rattle.ms_tasks.specs.declared.refusal.Refusal.{Refusal}
use Rattle.ms_tasks.specs.declared.refusal.Refusal.TheVariants as refusals

-- a crew, the address of each task's function, and the step that stopped its last run, if one did
pub record Addressed : Type 0 where
  pub crew : Crew
  pub open crew use *
  pub addresses : List ℕ
  pub trapped : Option Stop

-- the step that stopped a run
abbrev pub stop_in : Ran → Option Stop
stop_in (answers.Trap whose kind) = Some (record { whose = whose; kind = kind })
stop_in _ = None

-- the first of them that has no function; where memory ran out nothing is said
abbrev pub Refuses : Store → (tasks : List (ℕ × List ℕ)) → Refusal → Type 0
Refuses s tasks (refusals.Task n) = threads_from s tasks 0 ≡ Err n
Refuses s tasks refusals.Memory = Unit {0}

-- the thread of a start function, if there is one
abbrev pub IsStartOf : Store → (address : Option ℕ) → Option CodeTask → Type 0
IsStartOf s None None = Unit {0}
IsStartOf s (Some address) (Some task) = thread_of s.funcs task ≡ func_thread s address
IsStartOf s _ _ = ⊥
