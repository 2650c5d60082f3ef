-- The own values of a task and of instances as the code keeps them: the topmost operands, the locals of frames from a place on, and
-- the globals of one instance after another.
use Rattle.std.specs.Prelude.{ℕ, min, ◌-◌, Bool, if◌then◌else◌, List, [], ◌∷◌, ◌++◌, take, drop, length, flat_map, slice_get, Option, Some, None}
use Rattle.ms_linear.specs.declared.global.GlobalInst.{GlobalInst}
use Rattle.ms_linear.specs.declared.value.Value.{Value}
use Rattle.ms_task.specs.declared.func.FuncInst.{FuncInst}
use Rattle.ms_task.specs.declared.marks.Mark.{Mark}
use Rattle.ms_task.specs.declared.marks.Mark.TheVariants as marks
use Rattle.ms_task.specs.declared.task.Task.{Task}
use Rattle.ms_task.specs.refinement.View.{thread_of}
use Rattle.ms_machine.specs.declared.store.Instance.{Instance}
use Rattle.ms_machine.specs.Crews.{by_work}
use Rattle.ms_machine.specs.Store.{Store}
use Rattle.ms_reach.specs.Reach.{is_in}

-- how many operands lie below the last call whose caller isn't inside
abbrev pub floor_in : (ℕ → Bool) → List FuncInst → List Mark → ℕ
floor_in inside funcs [] = 0
floor_in inside funcs (marks.Label keeps height s next again ∷ ms) = floor_in inside funcs ms
floor_in inside funcs (marks.Activation keeps height g s next base floor ∷ ms) = if is_in inside (slice_get funcs g) then floor_in inside funcs ms else height

-- where the locals of the calls above it begin; those of the current one begin at low
abbrev pub lowest : (ℕ → Bool) → List FuncInst → ℕ → List Mark → ℕ
lowest inside funcs low [] = low
lowest inside funcs low (marks.Label keeps height s next again ∷ ms) = lowest inside funcs low ms
lowest inside funcs low (marks.Activation keeps height g s next base floor ∷ ms) = if is_in inside (slice_get funcs g) then lowest inside funcs (min base low) ms else low

-- the values of a task
abbrev pub task_values : (ℕ → Bool) → List FuncInst → Task → List Value
task_values inside funcs t =
    take (length t.operands - floor_in inside funcs t.marks) t.operands ++ drop (lowest inside funcs (length t.frames.0) t.marks) (t.frames.0 ++ t.frames.1)

-- none where it has ended
abbrev pub lent_values : (ℕ → Bool) → List FuncInst → Task → List Value
lent_values inside funcs t = by_work (thread_of funcs t).work [] (task_values inside funcs t)

-- the value of the global of an address
abbrev pub value_if : Option GlobalInst → List Value
value_if None = []
value_if (Some g) = g.value ∷ []

abbrev pub value_at : List GlobalInst → ℕ → List Value
value_at globals a = value_if (slice_get globals a)

-- those of an instance
abbrev pub values_if : List GlobalInst → Option Instance → List Value
values_if globals None = []
values_if globals (Some i) = flat_map (value_at globals) i.globals

abbrev pub values_of : Store → ℕ → List Value
values_of s n = values_if s.globals (slice_get s.instances n)
