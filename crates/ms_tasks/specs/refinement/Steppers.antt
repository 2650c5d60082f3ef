-- Whose step an entry is, and how the step that stopped a run leaves a task, as the code tells it and as the definition does.
use Rattle.std.specs.Prelude.{ℕ, Option, Some, None}
use Rattle.ms_machine.specs.Crews.{Start, Task, Trap, Whose}
use Rattle.ms_tasks.specs.States.{if_trapped}
use Rattle.ms_tasks.specs.declared.ran.Stop.{Stop}
use Rattle.ms_tasks.specs.declared.state.TaskState.{TaskState}
use Rattle.ms_tasks.specs.declared.whose.Whose as code
use Rattle.ms_tasks.specs.declared.whose.Whose.TheVariants as told

abbrev pub whose_of : code.Whose → Whose
whose_of told.Start = Start
whose_of (told.Task k) = Task k

-- how a task stands, by the step that stopped the run, if one did, and how it stands else
abbrev pub by_stop : ℕ → Option Stop → TaskState → TaskState
by_stop n None state = state
by_stop n (Some stop) state = if_trapped n (Trap (whose_of stop.whose) stop.kind) state
