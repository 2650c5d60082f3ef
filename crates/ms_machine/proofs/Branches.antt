-- Branches of the code's task, as branches of its thread.
use Rattle.std.proofs.Common.{◌≡◌, ◌≢◌, ℕ, List, None, drop, ap, sym, ◌∙◌}
use Rattle.ms_module.specs.declared.instr.Instr.TheVariants.{Br, Return}
use Rattle.ms_task.proofs.Items.{branch_past, return_past}
use Rattle.ms_task.specs.Control as control
use Rattle.ms_task.specs.Control.{To, branch, return_on}
use Rattle.ms_task.specs.Thread.{sequence}
use Rattle.ms_task.specs.refinement.View.{at_next, frame_of, outer_of, thread_of}
use Rattle.ms_task.specs.declared.func.FuncInst.{FuncInst}
use Rattle.ms_task.specs.declared.task.Task.{Task}
use Rattle.ms_machine.specs.Step.{Next, Stuck, act, moved}
use Rattle.ms_machine.specs.Store.{Store}

-- from any place of the sequence
pub branch_from : (funcs : List FuncInst) (t : Task) (l next : ℕ) → branch l (frame_of t) t.operands (at_next funcs t next).work ≡ branch l (frame_of t) t.operands (outer_of funcs t)
branch_from funcs t l next = branch_past l (frame_of t) t.operands (drop next (sequence funcs t.function t.sequence)) (outer_of funcs t)

return_from : (funcs : List FuncInst) (t : Task) (next : ℕ) → return_on t.operands (at_next funcs t next).work ≡ return_on t.operands (outer_of funcs t)
return_from funcs t next = return_past t.operands (drop next (sequence funcs t.function t.sequence)) (outer_of funcs t)

pub br_can : (s : Store) (t : Task) (l next : ℕ) → act s (Br l) (at_next s.funcs t next) ≢ Stuck → branch l (frame_of t) t.operands (outer_of s.funcs t) ≢ control.Stuck
br_can s t l next can lost = can (ap (moved s) (branch_from s.funcs t l next ∙ lost))

pub br_does : (s : Store) (t t' : Task) (l next : ℕ) → To (thread_of s.funcs t') ≡ branch l (frame_of t) t.operands (outer_of s.funcs t) → act s (Br l) (at_next s.funcs t next) ≡ Next s (thread_of s.funcs t') None
br_does s t t' l next does = ap (moved s) (branch_from s.funcs t l next ∙ sym does)

pub return_can : (s : Store) (t : Task) (next : ℕ) → act s Return (at_next s.funcs t next) ≢ Stuck → return_on t.operands (outer_of s.funcs t) ≢ control.Stuck
return_can s t next can lost = can (ap (moved s) (return_from s.funcs t next ∙ lost))

pub return_does : (s : Store) (t t' : Task) (next : ℕ) → To (thread_of s.funcs t') ≡ return_on t.operands (outer_of s.funcs t) → act s Return (at_next s.funcs t next) ≡ Next s (thread_of s.funcs t') None
return_does s t t' next does = ap (moved s) (return_from s.funcs t next ∙ sym does)
