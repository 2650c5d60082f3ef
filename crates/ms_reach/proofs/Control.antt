-- What holds of the values of a thread above an activation is kept by blocks, branches, calls and returns, while that
-- activation stays.
use Rattle.std.proofs.Common.{◌≡◌, ◌≤◌, ℕ, zero, suc, ◌-◌, List, [], ◌∷◌, length, map, reverse, drop, take, slice_get, Option, Some, None, Bool, true, false, cond, nat_le, nat_lt, unwrap_or, refl, arith, length-drop}
use Rattle.ms_linear.specs.declared.value.Value.{Value}
use Rattle.ms_linear.specs.declared.value.Value.TheVariants.{I32, I64, Handle}
use Rattle.ms_linear.specs.Values.{default_of}
use Rattle.ms_module.specs.declared.instr.Instr.{Instr}
use Rattle.ms_task.specs.Control.{Moved, To, TooDeep, Stuck, again, block_on, br_if_on, br_table_on, branch, call_on, deepest, else_on, enter, entered, if_on, keep, kept, on_index, on_number, over, return_on, exit_ended}
use Rattle.ms_task.specs.declared.func.FuncInst.{FuncInst}
use Rattle.ms_task.specs.Thread.{Activation, Do, Frame, Item, Label, depth_of, result_of, sequence, thread}
use Rattle.ms_types.specs.declared.types.ValType.{ValType}
use Rattle.ms_machine.specs.refinement.Holding.{Each}
use Rattle.ms_machine.proofs.HeldValues.{each_append, each_default, each_reverse}
use Rattle.ms_reach.specs.Reach.{is_inside}
use Rattle.ms_reach.proofs.Inside.{Above, EachTop, ThreadIn, WorkIn, above_drop, in_holds, top_take, work_dos}

module _ (inside : ℕ → Bool) (funcs : List FuncInst) (P : Value → Type 0) (n d : ℕ) where
  -- where at least so many calls are open
  abbrev pub MovedIn : Moved → Type 0
  MovedIn (To t) = d ≤ depth_of t.work → ThreadIn inside funcs P n d t
  MovedIn TooDeep = Unit {0}
  MovedIn Stuck = Unit {0}

  either_moved : (b : Bool) (m o : Moved) → MovedIn m → MovedIn o → MovedIn (cond b m o)
  either_moved true m o x y = x
  either_moved false m o x y = y

  -- the activation is in front, and left
  at_caller : (k : Option ValType) (h : ℕ) (caller : Frame) (w : List Item) → WorkIn inside funcs P n d (Activation k h caller ∷ w) → d ≤ depth_of w → (b : Bool) → is_inside inside funcs caller ≡ b → Each P caller.locals × WorkIn inside funcs P n d w
  at_caller k h caller w work stays true is = work.0 is
  at_caller k h caller w work stays false is = let left = (work.1 is).1 in absurd (omega arith)

  -- ---- branches

  kept_in : (k : Option ValType) (h : ℕ) (fr : Frame) (vs : List Value) (w : List Item) → Above P n vs → (d ≤ depth_of w → Each P fr.locals × WorkIn inside funcs P n d w) → MovedIn (kept (keep k h vs) fr w)
  kept_in None h fr vs w a rest = cuts (nat_le h (length vs)) where
    cuts : (c : Bool) → MovedIn (kept (cond c (Some (drop (length vs - h) vs)) None) fr w)
    cuts true = λ stays. in_holds inside funcs P n d fr _ w (above_drop P n (length vs - h) vs a) (rest stays).0 (rest stays).1
    cuts false = tt
  kept_in (Some t) h fr [] w a rest = tt
  kept_in (Some t) h fr (v ∷ vs) w a rest = cuts (nat_le h (length vs)) where
    cuts : (c : Bool) → MovedIn (kept (over v (cond c (Some (drop (length vs - h) vs)) None)) fr w)
    cuts true = λ stays. in_holds inside funcs P n d fr _ w (λ room. a.0 (let e = length-drop (length vs - h) vs in omega arith), above_drop P n (length vs - h) vs a.1) (rest stays).0 (rest stays).1
    cuts false = tt

  again_in : (g : Option Instr) (w : List Item) → WorkIn inside funcs P n d w → WorkIn inside funcs P n d (again g w)
  again_in None w h = h
  again_in (Some i) w h = h

  pub branch_in : (l : ℕ) (fr : Frame) (vs : List Value) (w : List Item) → Above P n vs → Each P fr.locals → WorkIn inside funcs P n d w → MovedIn (branch l fr vs w)
  branch_in l fr vs [] a b x = tt
  branch_in l fr vs (Do i ∷ w) a b x = branch_in l fr vs w a b x
  branch_in zero fr vs (Label k h g ∷ w) a b x = kept_in k h fr vs (again g w) a (λ stays. (b, again_in g w x))
  branch_in (suc l) fr vs (Label k h g ∷ w) a b x = branch_in l fr vs w a b x
  branch_in zero fr vs (Activation k h caller ∷ w) a b x = kept_in k h caller vs w a (λ stays. at_caller k h caller w x stays (is_inside inside funcs caller) refl)
  branch_in (suc l) fr vs (Activation k h caller ∷ w) a b x = tt

  pub return_in : (vs : List Value) (w : List Item) → Above P n vs → WorkIn inside funcs P n d w → MovedIn (return_on vs w)
  return_in vs [] a x = tt
  return_in vs (Do i ∷ w) a x = return_in vs w a x
  return_in vs (Label k h g ∷ w) a x = return_in vs w a x
  return_in vs (Activation k h caller ∷ w) a x = kept_in k h caller vs w a (λ stays. at_caller k h caller w x stays (is_inside inside funcs caller) refl)

  number_in : (vs : List Value) (f g : List Value → Moved) → Above P n vs → ((ws : List Value) → Above P n ws → MovedIn (f ws)) → ((ws : List Value) → Above P n ws → MovedIn (g ws)) → MovedIn (on_number vs f g)
  number_in [] f g a nonzero otherwise = tt
  number_in (I32 zero ∷ vs) f g a nonzero otherwise = otherwise vs a.1
  number_in (I32 (suc m) ∷ vs) f g a nonzero otherwise = nonzero vs a.1
  number_in (I64 m ∷ vs) f g a nonzero otherwise = tt
  number_in (Handle h ∷ vs) f g a nonzero otherwise = tt

  pub br_if_in : (l : ℕ) (fr : Frame) (vs : List Value) (w : List Item) → Above P n vs → Each P fr.locals → WorkIn inside funcs P n d w → MovedIn (br_if_on l (thread fr vs w))
  br_if_in l fr vs w a b x = number_in vs _ _ a (λ ws y. branch_in l fr ws w y b x) (λ ws y stays. in_holds inside funcs P n d fr ws w y b x)

  index_in : (vs : List Value) (f : ℕ → List Value → Moved) → Above P n vs → ((i : ℕ) (ws : List Value) → Above P n ws → MovedIn (f i ws)) → MovedIn (on_index vs f)
  index_in [] f a go = tt
  index_in (I32 i ∷ vs) f a go = go i vs a.1
  index_in (I64 i ∷ vs) f a go = tt
  index_in (Handle h ∷ vs) f a go = tt

  pub br_table_in : (labels : List ℕ) (default : ℕ) (fr : Frame) (vs : List Value) (w : List Item) → Above P n vs → Each P fr.locals → WorkIn inside funcs P n d w → MovedIn (br_table_on labels default (thread fr vs w))
  br_table_in labels default fr vs w a b x =
      index_in vs _ a (λ i ws y. branch_in (unwrap_or (slice_get labels i) default) fr ws w y b x)

  -- ---- blocks

  pub block_in : (s : ℕ) (k : Option ValType) (g : Option Instr) (fr : Frame) (vs : List Value) (w : List Item) → Above P n vs → Each P fr.locals → WorkIn inside funcs P n d w → MovedIn (block_on funcs s k g (thread fr vs w))
  block_in s k g fr vs w a b x = λ stays. in_holds inside funcs P n d fr vs _ a b (work_dos inside funcs P n d (sequence funcs fr.function s) (Label k (length vs) g ∷ w) x)

  else_in : (other : Option ℕ) (k : Option ValType) (fr : Frame) (vs : List Value) (w : List Item) → Above P n vs → Each P fr.locals → WorkIn inside funcs P n d w → MovedIn (else_on funcs other k (thread fr vs w))
  else_in None k fr vs w a b x = λ stays. in_holds inside funcs P n d fr vs w a b x
  else_in (Some s) k fr vs w a b x = block_in s k None fr vs w a b x

  pub if_in : (s : ℕ) (other : Option ℕ) (k : Option ValType) (fr : Frame) (vs : List Value) (w : List Item) → Above P n vs → Each P fr.locals → WorkIn inside funcs P n d w → MovedIn (if_on funcs s other k (thread fr vs w))
  if_in s other k fr vs w a b x =
      number_in vs _ _ a (λ ws y. block_in s k None fr ws w y b x) (λ ws y. else_in other k fr ws w y b x)

  -- ---- calls

  -- what a call takes
  abbrev pub Arguments : Option FuncInst → List Value → Type 0
  Arguments None vs = Unit {0}
  Arguments (Some g) vs = EachTop P (length g.ty.params) vs

  entered_in : ((ty : ValType) → P (default_of ty)) → (f : ℕ) (g : FuncInst) (fr : Frame) (vs : List Value) (w : List Item) → is_inside inside funcs fr ≡ true → EachTop P (length g.ty.params) vs → Above P n vs → Each P fr.locals → WorkIn inside funcs P n d w → ThreadIn inside funcs P n d (entered funcs f g (thread fr vs w))
  entered_in defaults f g fr vs w here top a b x =
      let m = length g.ty.params in
      record {
        operands = above_drop P n m vs a;
        locals = each_append P (reverse (take m vs)) (map default_of g.locals) (each_reverse P (take m vs) (top_take P m vs top)) (each_default P defaults g.locals);
        work = work_dos inside funcs P n d (sequence funcs f 0) (Activation (result_of g) (length vs - m) fr ∷ w) (λ yes. (b, x), λ no. absurd (cc));
      }

  pub call_in : ((ty : ValType) → P (default_of ty)) → (f : ℕ) (fr : Frame) (vs : List Value) (w : List Item) → is_inside inside funcs fr ≡ true → Arguments (slice_get funcs f) vs → Above P n vs → Each P fr.locals → WorkIn inside funcs P n d w → MovedIn (call_on funcs f (thread fr vs w))
  call_in defaults f fr vs w here top a b x =
      either_moved (nat_lt (depth_of w) deepest) (enter funcs f (slice_get funcs f) (thread fr vs w)) TooDeep (enters (slice_get funcs f) top) tt
    where
      enters : (o : Option FuncInst) → Arguments o vs → MovedIn (enter funcs f o (thread fr vs w))
      enters None top = tt
      enters (Some g) top =
          either_moved (nat_le (length g.ty.params) (length vs)) (To (entered funcs f g (thread fr vs w))) Stuck (λ stays. entered_in defaults f g fr vs w here top a b x) tt

  -- ---- leaving blocks and calls at their ends

  pub exit_depth : (fr : Frame) (vs : List Value) (w : List Item) → depth_of (exit_ended fr vs w).work ≤ depth_of w
  exit_depth fr vs [] = omega arith
  exit_depth fr vs (Do i ∷ w) = omega arith
  exit_depth fr vs (Label k h g ∷ w) = exit_depth fr vs w
  exit_depth fr vs (Activation k h caller ∷ w) = let rest = exit_depth caller vs w in omega arith

  pub exit_in : (fr : Frame) (vs : List Value) (w : List Item) → Above P n vs → (d ≤ depth_of w → Each P fr.locals × WorkIn inside funcs P n d w) → d ≤ depth_of (exit_ended fr vs w).work → ThreadIn inside funcs P n d (exit_ended fr vs w)
  exit_in fr vs [] a x stays = in_holds inside funcs P n d fr vs [] a (x stays).0 (x stays).1
  exit_in fr vs (Do i ∷ w) a x stays = in_holds inside funcs P n d fr vs (Do i ∷ w) a (x stays).0 (x stays).1
  exit_in fr vs (Label k h g ∷ w) a x stays = exit_in fr vs w a x stays
  exit_in fr vs (Activation k h caller ∷ w) a x stays =
      let deep : d ≤ depth_of (exit_ended caller vs w).work = stays in
      let less = exit_depth caller vs w in
      exit_in caller vs w a (λ still. at_caller k h caller w (x (omega arith)).1 still (is_inside inside funcs caller) refl) stays
