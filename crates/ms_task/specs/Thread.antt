-- A thread of computation (WebAssembly 1.0, 4.2.12 and 4.2.13): a frame, operands, and a list of what is left to do.
use Rattle.std.specs.Prelude.{ℕ, suc, List, [], ◌∷◌, Option, Some, None, slice_get}
use Rattle.ms_types.specs.declared.types.ValType.{ValType}
use Rattle.ms_linear.specs.declared.value.Value.{Value}
use Rattle.ms_module.specs.declared.instr.Instr.{Instr}
use Rattle.ms_module.specs.Numbered.{sequence_at}
use Rattle.ms_task.specs.declared.func.FuncInst.{FuncInst}

-- the function that is carried out, by its address, and its locals
pub record Frame : Type 0 where
  pub function : ℕ
  pub locals : List Value

pub data Item : Type 0 where
  -- an instruction
  Do : (instr : Instr) → Item
  -- the end of a block: what a branch to it keeps, how many operands lie below it, and the loop that it begins again
  Label : (keeps : Option ValType) (height : ℕ) (again : Option Instr) → Item
  -- the end of a call: its result, how many operands lie below it, and the frame of the caller
  Activation : (keeps : Option ValType) (height : ℕ) (caller : Frame) → Item

-- the operands have the topmost one first
pub record Thread : Type 0 where
  pub frame : Frame
  pub operands : List Value
  pub work : List Item

abbrev pub thread : Frame → List Value → List Item → Thread
thread fr vs w = record { frame = fr; operands = vs; work = w }

-- ---- the code of functions

abbrev pub body_in : Option FuncInst → List (List Instr)
body_in None = []
body_in (Some f) = f.body

-- the body of the function of an address; none where there is none
abbrev pub body_of : List FuncInst → ℕ → List (List Instr)
body_of funcs f = body_in (slice_get funcs f)

unfoldable pub sequence : List FuncInst → ℕ → ℕ → List Instr
sequence funcs f s = sequence_at (body_of funcs f) s

abbrev pub dos : List Instr → List Item
dos [] = []
dos (i ∷ is) = Do i ∷ dos is

-- what the function leaves: one value or none
abbrev pub result_of : FuncInst → Option ValType
result_of f = slice_get f.ty.results 0

-- ---- how deep calls are

-- how many calls were made and not left
abbrev pub depth_of : List Item → ℕ
depth_of [] = 0
depth_of (Do i ∷ w) = depth_of w
depth_of (Label k h g ∷ w) = depth_of w
depth_of (Activation k h caller ∷ w) = suc (depth_of w)

-- ---- what comes first

-- an instruction does
abbrev pub Begins : List Item → Type 0
Begins (Do i ∷ w) = Unit {0}
Begins _ = ⊥

abbrev pub with_first : Instr → Thread → Thread
with_first i t = thread t.frame t.operands (Do i ∷ t.work)
