-- The code's task as a thread: a place in a sequence stands for what follows it.
use Rattle.std.specs.Prelude.{◌≡◌, ◌<◌, ◌*◌, ◌^◌, ℕ, zero, suc, ◌-◌, List, [], ◌∷◌, ◌++◌, Bool, true, false, length, take, drop, slice_get, Option, Some, None}
use Rattle.ms_linear.specs.declared.value.Value.{Value}
use Rattle.ms_types.specs.declared.types.ValType.{ValType}
use Rattle.ms_module.specs.declared.instr.Instr.{Instr}
use Rattle.ms_module.specs.declared.instr.Instr.TheVariants.{Loop}
use Rattle.ms_task.specs.declared.func.FuncInst.{FuncInst}
use Rattle.ms_task.specs.declared.marks.Mark.{Mark}
use Rattle.ms_task.specs.declared.marks.Mark.TheVariants as marks
use Rattle.ms_task.specs.declared.repeat.Again.{Again}
use Rattle.ms_task.specs.declared.task.Task.{Task}
use Rattle.ms_task.specs.Thread.{Activation, Do, Frame, Item, Label, Thread, dos, sequence, thread}

-- what follows a place in a sequence
abbrev pub rest_at : List FuncInst → (f s place : ℕ) → List Item
rest_at funcs f s place = dos (drop place (sequence funcs f s))

-- the loop that stands before the place where the work goes on
abbrev pub again_at : Bool → ℕ → List Instr → Option Instr
again_at false next is = None
again_at true zero is = None
again_at true (suc n) is = slice_get is n

-- where the work goes on after a branch: at the loop, or past the block
abbrev pub resume : Bool → ℕ → ℕ
resume false next = next
resume true next = next - 1

-- what follows the current sequence: f is the current function, and below the locals of the kept frames
abbrev pub items_of : List FuncInst → (f : ℕ) → (below : List Value) → List Mark → List Item
items_of funcs f below [] = []
items_of funcs f below (marks.Label keeps height s next again ∷ ms) =
    Label keeps height (again_at again next (sequence funcs f s)) ∷ (rest_at funcs f s next ++ items_of funcs f below ms)
items_of funcs f below (marks.Activation keeps height g s next base floor ∷ ms) =
    Activation keeps height (record { function = g; locals = drop base below }) ∷ (rest_at funcs g s next ++ items_of funcs g (take base below) ms)

abbrev pub frame_of : Task → Frame
frame_of t = record { function = t.function; locals = t.frames.1 }

-- what follows the current sequence
abbrev pub outer_of : List FuncInst → Task → List Item
outer_of funcs t = items_of funcs t.function t.frames.0 t.marks

abbrev pub thread_of : List FuncInst → Task → Thread
thread_of funcs t = thread (frame_of t) t.operands (rest_at funcs t.function t.sequence t.place ++ outer_of funcs t)

-- the same where the work goes on at this place of the current sequence
abbrev pub at_next : List FuncInst → Task → ℕ → Thread
at_next funcs t next = thread (frame_of t) t.operands (rest_at funcs t.function t.sequence next ++ outer_of funcs t)

-- the instruction before a place of the current sequence
abbrev pub before : List FuncInst → Task → ℕ → Option Instr
before funcs t next = again_at true next (sequence funcs t.function t.sequence)

-- The next instruction stands at this place of the same sequence.
abbrev pub IsAt : Task → ℕ → Task → Type 0
IsAt t next t' = (t'.function ≡ t.function) × (t'.sequence ≡ t.sequence) × (t'.place ≡ next)

-- one end in front is dropped
abbrev pub exit_one : Frame → List Value → List Item → Thread
exit_one fr vs [] = thread fr vs []
exit_one fr vs (Do i ∷ w) = thread fr vs (Do i ∷ w)
exit_one fr vs (Label k h g ∷ w) = thread fr vs w
exit_one fr vs (Activation k h caller ∷ w) = thread caller vs w

-- The label of this number is that of a loop with such a sequence, which is a slice of memory and not empty.
abbrev pub IsLoop : List FuncInst → Task → ℕ → Again → Type 0
IsLoop funcs t l a =
    (s next : ℕ) × (ty : Option ValType) × (ms : List Mark) × (drop l t.marks ≡ marks.Label None a.height s next true ∷ ms) × (again_at true next (sequence funcs t.function s) ≡ Some (Loop ty a.body))
    × (a.code.now ≡ sequence funcs t.function a.body) × (0 < length a.code.now) × (length a.code.now * 16 < 2 ^ 63)
