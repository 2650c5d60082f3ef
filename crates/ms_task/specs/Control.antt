-- Control instructions (WebAssembly 1.0, 4.4.5), and what follows them.
use Rattle.std.specs.Prelude.{◌≡◌, ℕ, zero, suc, ◌-◌, List, [], ◌∷◌, ◌++◌, nat_le, nat_lt, if◌then◌else◌, length, map, take, drop, reverse, slice_get, unwrap_or, Option, Some, None}
use Rattle.ms_types.specs.declared.types.ValType.{ValType}
use Rattle.ms_linear.specs.declared.value.Value.{Value}
use Rattle.ms_linear.specs.declared.value.Value.TheVariants.{I32}
use Rattle.ms_linear.specs.Values.{default_of}
use Rattle.ms_module.specs.declared.instr.Instr.{Instr}
use Rattle.ms_module.specs.declared.instr.Instr.TheVariants.{Loop}
use Rattle.ms_task.specs.declared.func.FuncInst.{FuncInst}
use Rattle.ms_task.specs.Thread.{Activation, Do, Frame, Item, Label, Thread, depth_of, dos, result_of, sequence, thread, with_first}

-- where a control instruction leads
pub data Moved : Type 0 where
  To : Thread → Moved
  -- to a call that would be too deep
  TooDeep : Moved
  -- nowhere: an operand, a label or a function isn't there
  Stuck : Moved

-- ---- exiting blocks and calls at their ends

-- ends in front are dropped: exiting belongs to the step before
abbrev pub exit_ended : Frame → List Value → List Item → Thread
exit_ended fr vs [] = thread fr vs []
exit_ended fr vs (Do i ∷ w) = thread fr vs (Do i ∷ w)
exit_ended fr vs (Label k h g ∷ w) = exit_ended fr vs w
exit_ended fr vs (Activation k h caller ∷ w) = exit_ended caller vs w

abbrev pub exited : Thread → Thread
exited t = exit_ended t.frame t.operands t.work

-- ---- branches

-- the lowest operands, so many
abbrev pub lowest : ℕ → List Value → Option (List Value)
lowest h vs = if nat_le h (length vs) then Some (drop (length vs - h) vs) else None

abbrev pub over : Value → Option (List Value) → Option (List Value)
over v None = None
over v (Some vs) = Some (v ∷ vs)

-- the topmost operand or none, over the lowest ones
abbrev pub keep : Option ValType → ℕ → List Value → Option (List Value)
keep None h vs = lowest h vs
keep (Some t) h [] = None
keep (Some t) h (v ∷ vs) = over v (lowest h vs)

abbrev pub kept : Option (List Value) → Frame → List Item → Moved
kept None fr w = Stuck
kept (Some vs) fr w = To (thread fr vs w)

abbrev pub again : Option Instr → List Item → List Item
again None w = w
again (Some i) w = Do i ∷ w

-- to the label of this number, the innermost being 0; behind the labels of the call its own end
abbrev pub branch : ℕ → Frame → List Value → List Item → Moved
branch l fr vs [] = Stuck
branch l fr vs (Do i ∷ w) = branch l fr vs w
branch zero fr vs (Label k h g ∷ w) = kept (keep k h vs) fr (again g w)
branch (suc l) fr vs (Label k h g ∷ w) = branch l fr vs w
branch zero fr vs (Activation k h caller ∷ w) = kept (keep k h vs) caller w
branch (suc l) fr vs (Activation k h caller ∷ w) = Stuck

abbrev pub return_on : List Value → List Item → Moved
return_on vs [] = Stuck
return_on vs (Do i ∷ w) = return_on vs w
return_on vs (Label k h g ∷ w) = return_on vs w
return_on vs (Activation k h caller ∷ w) = kept (keep k h vs) caller w

-- at a number that is not 0 the first, at 0 the second
abbrev pub on_number : List Value → (nonzero otherwise : List Value → Moved) → Moved
on_number (I32 zero ∷ vs) nonzero otherwise = otherwise vs
on_number (I32 (suc n) ∷ vs) nonzero otherwise = nonzero vs
on_number _ nonzero otherwise = Stuck

abbrev pub br_if_on : ℕ → Thread → Moved
br_if_on l t = on_number t.operands (λ vs. branch l t.frame vs t.work) (λ vs. To (thread t.frame vs t.work))

abbrev pub on_index : List Value → (ℕ → List Value → Moved) → Moved
on_index (I32 i ∷ vs) go = go i vs
on_index _ go = Stuck

-- to the label for the operand, or to the default one
abbrev pub br_table_on : List ℕ → ℕ → Thread → Moved
br_table_on labels default t = on_index t.operands (λ i vs. branch (unwrap_or (slice_get labels i) default) t.frame vs t.work)

-- ---- blocks

-- into a sequence of the function
abbrev pub block_on : List FuncInst → ℕ → Option ValType → Option Instr → Thread → Moved
block_on funcs s keeps g t = To (thread t.frame t.operands (dos (sequence funcs t.frame.function s) ++ Label keeps (length t.operands) g ∷ t.work))

-- a branch to a loop keeps nothing and begins it again
abbrev pub loop_on : List FuncInst → Option ValType → ℕ → Thread → Moved
loop_on funcs ty s t = block_on funcs s None (Some (Loop ty s)) t

-- where a branch to a loop leads, with the loop that it begins again: two steps
abbrev pub Repeats : List FuncInst → Moved → Thread → Type 0
Repeats funcs branched t' = (ty : Option ValType) × (s : ℕ) × (t : Thread) × (branched ≡ To (with_first (Loop ty s) t)) × (To t' ≡ loop_on funcs ty s t)

abbrev pub else_on : List FuncInst → Option ℕ → Option ValType → Thread → Moved
else_on funcs None r t = To t
else_on funcs (Some s) r t = block_on funcs s r None t

abbrev pub if_on : List FuncInst → ℕ → Option ℕ → Option ValType → Thread → Moved
if_on funcs s other r t = on_number t.operands (λ vs. block_on funcs s r None (thread t.frame vs t.work)) (λ vs. else_on funcs other r (thread t.frame vs t.work))

-- ---- calls

-- a new frame: the arguments, the last of which is topmost, and the other locals
abbrev pub entered : List FuncInst → ℕ → FuncInst → Thread → Thread
entered funcs f g t =
    let n = length g.ty.params in
    thread (record { function = f; locals = reverse (take n t.operands) ++ map default_of g.locals }) (drop n t.operands) (dos (sequence funcs f 0) ++ Activation (result_of g) (length t.operands - n) t.frame ∷ t.work)

abbrev pub enter : List FuncInst → ℕ → Option FuncInst → Thread → Moved
enter funcs f None t = Stuck
enter funcs f (Some g) t = if nat_le (length g.ty.params) (length t.operands) then To (entered funcs f g t) else Stuck

abbrev pub deepest : ℕ
deepest = 16384

-- a call of the function of this address
abbrev pub call_on : List FuncInst → ℕ → Thread → Moved
call_on funcs f t = if nat_lt (depth_of t.work) deepest then enter funcs f (slice_get funcs f) t else TooDeep

-- ---- the start of a task

-- a caller that has nothing to do
abbrev pub nobody : List FuncInst → Frame
nobody funcs = record { function = length funcs; locals = [] }

-- a function without parameters, before its first instruction
abbrev pub started : List FuncInst → ℕ → FuncInst → Thread
started funcs f g = thread (record { function = f; locals = map default_of g.locals }) [] (dos (sequence funcs f 0) ++ Activation (result_of g) 0 (nobody funcs) ∷ [])
