-- A fact about each value is kept by blocks, branches, calls and returns.
use Rattle.std.proofs.Common.{ℕ, zero, suc, ◌-◌, List, [], ◌∷◌, length, map, reverse, drop, take, slice_get, Option, Some, None, Bool, true, false, cond, nat_le, nat_lt, unwrap_or}
use Rattle.ms_linear.specs.declared.value.Value.{Value}
use Rattle.ms_linear.specs.declared.value.Value.TheVariants.{I32, I64, Handle}
use Rattle.ms_linear.specs.Values.{default_of}
use Rattle.ms_module.specs.declared.instr.Instr.{Instr}
use Rattle.ms_task.specs.Control.{Moved, To, TooDeep, Stuck, again, block_on, br_if_on, br_table_on, branch, call_on, deepest, else_on, enter, entered, if_on, keep, kept, on_index, on_number, over, return_on, exit_ended}
use Rattle.ms_task.specs.declared.func.FuncInst.{FuncInst}
use Rattle.ms_task.specs.Thread.{Activation, Do, Frame, Item, Label, depth_of, result_of, sequence, thread}
use Rattle.ms_types.specs.declared.types.ValType.{ValType}
use Rattle.ms_machine.specs.refinement.Holding.{Each, EachKept, ThreadHolds}
use Rattle.ms_machine.proofs.HeldValues.{each_append, each_default, each_drop, each_reverse, each_take, holds, kept_dos}

module _ (P : Value → Type 0) where
  abbrev pub MovedHolds : Moved → Type 0
  MovedHolds (To t) = ThreadHolds P t
  MovedHolds TooDeep = Unit {0}
  MovedHolds Stuck = Unit {0}

  either_moved : (b : Bool) (m n : Moved) → MovedHolds m → MovedHolds n → MovedHolds (cond b m n)
  either_moved true m n x y = x
  either_moved false m n x y = y

  -- ---- branches

  kept_holds : (k : Option ValType) (h : ℕ) (fr : Frame) (vs : List Value) (w : List Item) → Each P vs → Each P fr.locals → EachKept P w → MovedHolds (kept (keep k h vs) fr w)
  kept_holds None h fr vs w a b d = cuts (nat_le h (length vs)) where
    cuts : (c : Bool) → MovedHolds (kept (cond c (Some (drop (length vs - h) vs)) None) fr w)
    cuts true = holds P fr _ w (each_drop P (length vs - h) vs a) b d
    cuts false = tt
  kept_holds (Some t) h fr [] w a b d = tt
  kept_holds (Some t) h fr (v ∷ vs) w a b d = cuts (nat_le h (length vs)) where
    cuts : (c : Bool) → MovedHolds (kept (over v (cond c (Some (drop (length vs - h) vs)) None)) fr w)
    cuts true = holds P fr _ w (a.0, each_drop P (length vs - h) vs a.1) b d
    cuts false = tt

  again_holds : (g : Option Instr) (w : List Item) → EachKept P w → EachKept P (again g w)
  again_holds None w h = h
  again_holds (Some i) w h = h

  pub branch_holds : (l : ℕ) (fr : Frame) (vs : List Value) (w : List Item) → Each P vs → Each P fr.locals → EachKept P w → MovedHolds (branch l fr vs w)
  branch_holds l fr vs [] a b d = tt
  branch_holds l fr vs (Do i ∷ w) a b d = branch_holds l fr vs w a b d
  branch_holds zero fr vs (Label k h g ∷ w) a b d = kept_holds k h fr vs (again g w) a b (again_holds g w d)
  branch_holds (suc l) fr vs (Label k h g ∷ w) a b d = branch_holds l fr vs w a b d
  branch_holds zero fr vs (Activation k h caller ∷ w) a b d = kept_holds k h caller vs w a d.0 d.1
  branch_holds (suc l) fr vs (Activation k h caller ∷ w) a b d = tt

  pub return_holds : (vs : List Value) (w : List Item) → Each P vs → EachKept P w → MovedHolds (return_on vs w)
  return_holds vs [] a d = tt
  return_holds vs (Do i ∷ w) a d = return_holds vs w a d
  return_holds vs (Label k h g ∷ w) a d = return_holds vs w a d
  return_holds vs (Activation k h caller ∷ w) a d = kept_holds k h caller vs w a d.0 d.1

  number_holds : (vs : List Value) (f g : List Value → Moved) → Each P vs → ((ws : List Value) → Each P ws → MovedHolds (f ws)) → ((ws : List Value) → Each P ws → MovedHolds (g ws)) → MovedHolds (on_number vs f g)
  number_holds [] f g a nonzero otherwise = tt
  number_holds (I32 zero ∷ vs) f g a nonzero otherwise = otherwise vs a.1
  number_holds (I32 (suc n) ∷ vs) f g a nonzero otherwise = nonzero vs a.1
  number_holds (I64 n ∷ vs) f g a nonzero otherwise = tt
  number_holds (Handle h ∷ vs) f g a nonzero otherwise = tt

  pub br_if_holds : (l : ℕ) (fr : Frame) (vs : List Value) (w : List Item) → Each P vs → Each P fr.locals → EachKept P w → MovedHolds (br_if_on l (thread fr vs w))
  br_if_holds l fr vs w a b d = number_holds vs _ _ a (λ ws x. branch_holds l fr ws w x b d) (λ ws x. holds P fr ws w x b d)

  index_holds : (vs : List Value) (f : ℕ → List Value → Moved) → Each P vs → ((i : ℕ) (ws : List Value) → Each P ws → MovedHolds (f i ws)) → MovedHolds (on_index vs f)
  index_holds [] f a go = tt
  index_holds (I32 i ∷ vs) f a go = go i vs a.1
  index_holds (I64 i ∷ vs) f a go = tt
  index_holds (Handle h ∷ vs) f a go = tt

  pub br_table_holds : (labels : List ℕ) (default : ℕ) (fr : Frame) (vs : List Value) (w : List Item) → Each P vs → Each P fr.locals → EachKept P w → MovedHolds (br_table_on labels default (thread fr vs w))
  br_table_holds labels default fr vs w a b d =
      index_holds vs _ a (λ i ws x. branch_holds (unwrap_or (slice_get labels i) default) fr ws w x b d)

  -- ---- blocks

  pub block_holds : (funcs : List FuncInst) (s : ℕ) (k : Option ValType) (g : Option Instr) (fr : Frame) (vs : List Value) (w : List Item) → Each P vs → Each P fr.locals → EachKept P w → MovedHolds (block_on funcs s k g (thread fr vs w))
  block_holds funcs s k g fr vs w a b d = holds P fr vs _ a b (kept_dos P (sequence funcs fr.function s) (Label k (length vs) g ∷ w) d)

  else_holds : (funcs : List FuncInst) (other : Option ℕ) (k : Option ValType) (fr : Frame) (vs : List Value) (w : List Item) → Each P vs → Each P fr.locals → EachKept P w → MovedHolds (else_on funcs other k (thread fr vs w))
  else_holds funcs None k fr vs w a b d = holds P fr vs w a b d
  else_holds funcs (Some s) k fr vs w a b d = block_holds funcs s k None fr vs w a b d

  pub if_holds : (funcs : List FuncInst) (s : ℕ) (other : Option ℕ) (k : Option ValType) (fr : Frame) (vs : List Value) (w : List Item) → Each P vs → Each P fr.locals → EachKept P w → MovedHolds (if_on funcs s other k (thread fr vs w))
  if_holds funcs s other k fr vs w a b d =
      number_holds vs _ _ a (λ ws x. block_holds funcs s k None fr ws w x b d) (λ ws x. else_holds funcs other k fr ws w x b d)

  -- ---- calls

  entered_holds : ((ty : ValType) → P (default_of ty)) → (funcs : List FuncInst) (f : ℕ) (g : FuncInst) (fr : Frame) (vs : List Value) (w : List Item) → Each P vs → Each P fr.locals → EachKept P w → ThreadHolds P (entered funcs f g (thread fr vs w))
  entered_holds defaults funcs f g fr vs w a b d =
      let n = length g.ty.params in
      record {
        operands = each_drop P n vs a;
        locals = each_append P (reverse (take n vs)) (map default_of g.locals) (each_reverse P (take n vs) (each_take P n vs a)) (each_default P defaults g.locals);
        kept = kept_dos P (sequence funcs f 0) (Activation (result_of g) (length vs - n) fr ∷ w) (b, d);
      }

  pub call_holds : ((ty : ValType) → P (default_of ty)) → (funcs : List FuncInst) (f : ℕ) (fr : Frame) (vs : List Value) (w : List Item) → Each P vs → Each P fr.locals → EachKept P w → MovedHolds (call_on funcs f (thread fr vs w))
  call_holds defaults funcs f fr vs w a b d =
      either_moved (nat_lt (depth_of w) deepest) (enter funcs f (slice_get funcs f) (thread fr vs w)) TooDeep (enters (slice_get funcs f)) tt
    where
      enters : (o : Option FuncInst) → MovedHolds (enter funcs f o (thread fr vs w))
      enters None = tt
      enters (Some g) =
          either_moved (nat_le (length g.ty.params) (length vs)) (To (entered funcs f g (thread fr vs w))) Stuck (entered_holds defaults funcs f g fr vs w a b d) tt

  -- ---- leaving blocks and calls at their ends

  pub exit_holds : (fr : Frame) (vs : List Value) (w : List Item) → Each P vs → Each P fr.locals → EachKept P w → ThreadHolds P (exit_ended fr vs w)
  exit_holds fr vs [] a b d = holds P fr vs [] a b d
  exit_holds fr vs (Do i ∷ w) a b d = holds P fr vs (Do i ∷ w) a b d
  exit_holds fr vs (Label k h g ∷ w) a b d = exit_holds fr vs w a b d
  exit_holds fr vs (Activation k h caller ∷ w) a b d = exit_holds caller vs w a d.0 d.1
