-- How a task stands behind a run.
use Rattle.std.specs.Prelude.{◌==◌, ℕ, if◌then◌else◌, List, [], ◌∷◌, Option, Some, None, slice_get}
use Rattle.ms_linear.specs.declared.value.Value.{Value}
use Rattle.ms_machine.specs.Crews.{End, Run, Task, Trap}
use Rattle.ms_task.specs.Thread.{Item, Thread}
use Rattle.ms_tasks.specs.declared.state.TaskState.{TaskState}
use Rattle.ms_tasks.specs.declared.state.TaskState.TheVariants.{Unended, Ended, Trapped}

-- by what is left for it to do, and the value that it left, if one
abbrev pub by_thread : List Item → List Value → TaskState
by_thread [] vs = Ended (slice_get vs 0)
by_thread (i ∷ w) vs = Unended

abbrev pub in_crew : Option Thread → TaskState
in_crew None = Unended
in_crew (Some t) = by_thread t.work t.operands

-- where a step of its own stopped the run, it is trapped, and else as its thread stands
abbrev pub if_trapped : ℕ → End → TaskState → TaskState
if_trapped n (Trap (Task k) kind) state = if k == n then Trapped kind else state
if_trapped n end state = state

abbrev pub state_of : ℕ → Run → TaskState
state_of n r = if_trapped n r.end (in_crew (slice_get r.crew.tasks n))
