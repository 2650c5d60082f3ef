-- What stands in front of a list of items.
use Rattle.std.proofs.Common.{◌≡◌, ◌≢◌, ℕ, zero, suc, ◌-◌, List, [], ◌∷◌, ◌++◌, Bool, true, false, drop, slice_get, Option, Some, None, refl, sym, ap, ◌∙◌, arith}
use Rattle.ms_types.specs.declared.types.ValType.{ValType}
use Rattle.ms_linear.specs.declared.value.Value.{Value}
use Rattle.ms_module.specs.declared.instr.Instr.{Instr}
use Rattle.ms_module.specs.declared.instr.Instr.TheVariants.{Loop}
use Rattle.ms_task.specs.declared.func.FuncInst.{FuncInst}
use Rattle.ms_task.specs.declared.task.Task.{Task}
use Rattle.ms_task.specs.Control.{again, block_on, branch, loop_on, return_on, exit_ended}
use Rattle.ms_task.specs.Thread.{Activation, Begins, Do, Frame, Item, Label, depth_of, dos, sequence, thread}
use Rattle.ms_task.specs.refinement.View.{again_at, at_next, before, outer_of, resume, exit_one}

-- ---- instructions are passed over

pub branch_past : (l : ℕ) (fr : Frame) (vs : List Value) (is : List Instr) (w : List Item) → branch l fr vs (dos is ++ w) ≡ branch l fr vs w
branch_past l fr vs [] w = refl
branch_past l fr vs (i ∷ is) w = branch_past l fr vs is w

pub return_past : (vs : List Value) (is : List Instr) (w : List Item) → return_on vs (dos is ++ w) ≡ return_on vs w
return_past vs [] w = refl
return_past vs (i ∷ is) w = return_past vs is w

pub depth_past : (is : List Instr) (w : List Item) → depth_of (dos is ++ w) ≡ depth_of w
depth_past [] w = refl
depth_past (i ∷ is) w = depth_past is w

-- the same where a task goes on at a place
pub branch_next : (l : ℕ) (fr : Frame) (vs : List Value) (funcs : List FuncInst) (t : Task) (next : ℕ) → branch l fr vs (at_next funcs t next).work ≡ branch l fr vs (outer_of funcs t)
branch_next l fr vs funcs t next = branch_past l fr vs (drop next (sequence funcs t.function t.sequence)) (outer_of funcs t)

pub return_next : (vs : List Value) (funcs : List FuncInst) (t : Task) (next : ℕ) → return_on vs (at_next funcs t next).work ≡ return_on vs (outer_of funcs t)
return_next vs funcs t next = return_past vs (drop next (sequence funcs t.function t.sequence)) (outer_of funcs t)

pub dos_are_nil : (is : List Instr) (w : List Item) → dos is ++ w ≡ [] → is ≡ []
dos_are_nil [] w e = refl
dos_are_nil (i ∷ is) w e = cc

-- ---- leaving blocks and calls at their ends

pub exit_begins : (fr : Frame) (vs : List Value) (w : List Item) → Begins w → exit_ended fr vs w ≡ thread fr vs w
exit_begins fr vs [] b = absurd b
exit_begins fr vs (Do i ∷ w) b = refl
exit_begins fr vs (Label k h g ∷ w) b = absurd b
exit_begins fr vs (Activation k h caller ∷ w) b = absurd b

pub begins_past : (is : List Instr) (w : List Item) → is ≢ [] → Begins (dos is ++ w)
begins_past [] w n = absurd (n refl)
begins_past (i ∷ is) w n = tt

pub exit_ended-exit_one : (fr : Frame) (vs : List Value) (w : List Item) → exit_ended (exit_one fr vs w).frame (exit_one fr vs w).operands (exit_one fr vs w).work ≡ exit_ended fr vs w
exit_ended-exit_one fr vs [] = refl
exit_ended-exit_one fr vs (Do i ∷ w) = refl
exit_ended-exit_one fr vs (Label k h g ∷ w) = refl
exit_ended-exit_one fr vs (Activation k h caller ∷ w) = refl

-- ---- the loop that begins again

again-get : (n : ℕ) (is : List Instr) (w : List Item) → again (slice_get is n) (dos (drop (suc n) is) ++ w) ≡ dos (drop n is) ++ w
again-get zero [] w = refl
again-get (suc n) [] w = refl
again-get zero (i ∷ is) w = refl
again-get (suc n) (i ∷ is) w = again-get n is w

pub again-at : (a : Bool) (next : ℕ) (is : List Instr) (w : List Item) → again (again_at a next is) (dos (drop next is) ++ w) ≡ dos (drop (resume a next) is) ++ w
again-at false next is w = refl
again-at true zero is w = refl
again-at true (suc n) is w = let e : suc n - 1 ≡ n = omega arith in again-get n is w ∙ ap (λ k. dos (drop k is) ++ w) (sym e)

-- the instruction that was fetched is the one that a label before this place begins again
pub again_before : (funcs : List FuncInst) (t : Task) (next : ℕ) (i : Instr) → before funcs t next ≡ Some i → again_at true next (sequence funcs t.function t.sequence) ≡ Some i
again_before funcs t next i e = e

pub loop_before : (funcs : List FuncInst) (t : Task) (next s : ℕ) (ty : Option ValType) → before funcs t next ≡ Some (Loop ty s) → block_on funcs s None (again_at true next (sequence funcs t.function t.sequence)) (at_next funcs t next) ≡ loop_on funcs ty s (at_next funcs t next)
loop_before funcs t next s ty e = ap (λ g. block_on funcs s None g (at_next funcs t next)) e
