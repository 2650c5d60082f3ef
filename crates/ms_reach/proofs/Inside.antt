-- What holds of the values of a thread above an activation.
use Rattle.std.proofs.Common.{◌≡◌, ℕ, zero, suc, ◌+◌, ◌≤◌, Bool, true, false, List, [], ◌∷◌, ◌++◌, length, take, drop, arith}
use Rattle.ms_linear.specs.declared.value.Value.{Value}
use Rattle.ms_module.specs.declared.instr.Instr.{Instr}
use Rattle.ms_task.specs.declared.func.FuncInst.{FuncInst}
use Rattle.ms_task.specs.Thread.{Activation, Do, Frame, Item, Label, Thread, depth_of, dos, thread}
use Rattle.ms_machine.specs.refinement.Holding.{Each, EachKept}
use Rattle.ms_reach.specs.Reach.{is_inside}

module _ (P : Value → Type 0) where
  -- of each operand that so many others lie below
  abbrev pub Above : ℕ → List Value → Type 0
  Above n [] = Unit {0}
  Above n (v ∷ vs) = (n ≤ length vs → P v) × Above n vs

  -- of so many operands, the topmost ones
  abbrev pub EachTop : ℕ → List Value → Type 0
  EachTop zero vs = Unit {0}
  EachTop (suc k) [] = Unit {0}
  EachTop (suc k) (v ∷ vs) = P v × EachTop k vs

  pub above_drop : (n j : ℕ) (vs : List Value) → Above n vs → Above n (drop j vs)
  above_drop n zero vs a = a
  above_drop n (suc j) [] a = tt
  above_drop n (suc j) (v ∷ vs) a = above_drop n j vs a.1

  pub top_take : (k : ℕ) (vs : List Value) → EachTop k vs → Each P (take k vs)
  top_take zero vs a = tt
  top_take (suc k) [] a = tt
  top_take (suc k) (v ∷ vs) a = (a.0, top_take k vs a.1)

  -- operands that are all so
  pub above_top : (n k : ℕ) (vs : List Value) → n + k ≤ length vs → Above n vs → EachTop k vs
  above_top n zero vs room a = tt
  above_top n (suc k) [] room a = tt
  above_top n (suc k) (v ∷ vs) room a = (a.0 (omega arith), above_top n k vs (omega arith) a.1)

module _ (inside : ℕ → Bool) (funcs : List FuncInst) (P : Value → Type 0) (n d : ℕ) where
  -- the callers above the last activation whose caller isn't inside; n operands lie below it, and d calls are open with it
  abbrev pub WorkIn : List Item → Type 0
  WorkIn [] = (n ≡ 0) × (d ≡ 0)
  WorkIn (Do i ∷ w) = WorkIn w
  WorkIn (Label k h g ∷ w) = WorkIn w
  WorkIn (Activation k h caller ∷ w) =
      (is_inside inside funcs caller ≡ true → Each P caller.locals × WorkIn w) × (is_inside inside funcs caller ≡ false → (n ≡ h) × (d ≡ suc (depth_of w)))

  pub record ThreadIn (t : Thread) : Type 0 where
    pub operands : Above P n t.operands
    pub locals : Each P t.frame.locals
    pub work : WorkIn t.work

  pub work_dos : (is : List Instr) (w : List Item) → WorkIn w → WorkIn (dos is ++ w)
  work_dos [] w h = h
  work_dos (i ∷ is) w h = work_dos is w h

  pub in_holds : (fr : Frame) (vs : List Value) (w : List Item) → Above P n vs → Each P fr.locals → WorkIn w → ThreadIn (thread fr vs w)
  in_holds fr vs w operands locals work = record { operands = operands; locals = locals; work = work }

-- ---- a fact that follows from another, where a third holds of all values

module _ (F P Q : Value → Type 0) (grows : (v : Value) → F v → P v → Q v) where
  pub above_grows : (n : ℕ) (vs : List Value) → Each F vs → Above P n vs → Above Q n vs
  above_grows n [] f a = tt
  above_grows n (v ∷ vs) f a = (λ room. grows v f.0 (a.0 room), above_grows n vs f.1 a.1)

  pub each_both_grows : (vs : List Value) → Each F vs → Each P vs → Each Q vs
  each_both_grows [] f a = tt
  each_both_grows (v ∷ vs) f a = (grows v f.0 a.0, each_both_grows vs f.1 a.1)

  pub work_grows : (inside : ℕ → Bool) (funcs : List FuncInst) (n d : ℕ) (w : List Item) → EachKept F w → WorkIn inside funcs P n d w → WorkIn inside funcs Q n d w
  work_grows inside funcs n d [] f h = h
  work_grows inside funcs n d (Do i ∷ w) f h = work_grows inside funcs n d w f h
  work_grows inside funcs n d (Label k x g ∷ w) f h = work_grows inside funcs n d w f h
  work_grows inside funcs n d (Activation k x caller ∷ w) f h =
      (λ yes. (each_both_grows caller.locals f.0 (h.0 yes).0, work_grows inside funcs n d w f.1 (h.0 yes).1), h.1)
