-- Of a typed thread an instruction looks at operands above the last activation whose caller isn't inside.
use Rattle.std.proofs.Common.{◌≡◌, ◌≤◌, ℕ, suc, Bool, true, false, List, [], ◌∷◌, ◌++◌, length, reverse, Option, Some, None, Result, Ok, Err, slice_get, refl, sym, ap, subst, ◌∙◌, arith, length-append}
use Rattle.std.proofs.lemmas.List.{length-reverse}
use Rattle.ms_linear.specs.declared.table.CallTrap.{CallTrap}
use Rattle.ms_linear.specs.declared.table.FuncRef.{FuncRef}
use Rattle.ms_linear.specs.declared.value.Value.{Value}
use Rattle.ms_linear.specs.declared.value.Value.TheVariants as values
use Rattle.ms_linear.specs.Table.{Table, target_of}
use Rattle.ms_module.specs.declared.access.Segment.{Segment as SegmentInstr}
use Rattle.ms_module.specs.declared.access.Segment.TheVariants.{LoadHandle, StoreHandle, Load, Store as StoreNumber}
use Rattle.ms_module.specs.declared.instr.Instr.{Instr}
use Rattle.ms_module.specs.declared.instr.Instr.TheVariants.{Call, CallIndirect, GlobalSet, LocalSet, LocalTee, Segment}
use Rattle.ms_rules.specs.Instructions.{segment_type}
use Rattle.ms_rules.specs.Typing.{HasType, types}
use Rattle.ms_task.specs.declared.func.FuncInst.{FuncInst}
use Rattle.ms_task.specs.Thread.{Activation, Do, Frame, Item, Label, Thread}
use Rattle.ms_types.specs.declared.types.FuncType.{FuncType}
use Rattle.ms_types.specs.declared.types.ValType.{ValType}
use Rattle.ms_machine.specs.refinement.Holding.{StoreFits}
use Rattle.ms_machine.specs.Store.{Store, at, func_address, instance_of, table_address, type_at}
use Rattle.ms_machine.specs.Typing.{InstrTypedAt, Outline, StoreTyped, TaskTyped, WorkTyped, labels_of, outline_of, types_of}
use Rattle.ms_machine.proofs.TypedCalls.{func_named}
use Rattle.ms_machine.proofs.TypedStores.{TargetTyped, sig_named, table_named, target_typed}
use Rattle.ms_machine.proofs.TypedValues.{height}
use Rattle.ms_reach.specs.Confined.{Agree, Contents}
use Rattle.ms_reach.specs.Reach.{is_inside}
use Rattle.ms_reach.proofs.Inside.{Above, EachTop, WorkIn, above_top}
use Rattle.ms_reach.proofs.Bytes.{Looks}
use Rattle.ms_reach.proofs.Control.{Arguments}
use Rattle.ms_reach.proofs.Plain.{StoreIn}
use Rattle.ms_reach.proofs.Acts.{InstrLooks, TargetLooks, ThroughLooks}
use Rattle.ms_reach.proofs.Spots.{ValueIn}
use Rattle.ms_reach.proofs.Steps.{FirstLooks}

-- ---- operands of the innermost block lie above that activation

module _ (inside : ℕ → Bool) (funcs : List FuncInst) (P : Value → Type 0) (n d : ℕ) (o : Outline) where
  below_high : (w : List Item) (f : ℕ) (ts below : List ValType) → WorkTyped o f w ts below → WorkIn inside funcs P n d w → n ≤ length below
  below_high [] f ts below typed work = let e = work.0 in omega arith
  below_high (Do i ∷ w) f ts below typed work = below_high w f typed.0 below typed.2 work
  below_high (Label k h None ∷ w) f ts below typed work =
      let rest = below_high w f (ts ++ typed.0) typed.1 typed.4 work in
      let e : length below ≡ length (typed.0 ++ typed.1) = ap length typed.2 in
      omega (arith, length-append typed.0 typed.1)
  below_high (Label k h (Some i) ∷ w) f ts below typed work =
      let rest = below_high w f (ts ++ typed.0) typed.1 typed.4 work in
      let e : length below ≡ length (typed.0 ++ typed.1) = ap length typed.2 in
      omega (arith, length-append typed.0 typed.1)
  below_high (Activation k h caller ∷ w) f ts below typed work = by (λ wi. below_high w caller.function (types k ++ typed.0) typed.1 typed.7 wi) (is_inside inside funcs caller) refl where
    by : (WorkIn inside funcs P n d w → n ≤ length typed.1) → (b : Bool) → is_inside inside funcs caller ≡ b → n ≤ length below
    by higher true is =
        let rest = higher (work.0 is).1 in
        let e : length below ≡ length (typed.0 ++ typed.1) = ap length typed.2 in
        omega (arith, length-append typed.0 typed.1)
    by higher false is = let low : n ≡ h = (work.1 is).0 in let high : h ≡ length below = typed.3 in omega arith

-- ---- what an instruction looks at

module _ (inside : ℕ → Bool) (R : ℕ → Type 0) (n d : ℕ) (s : Store) (c : Contents) (agree : Agree inside R s c) (store : StoreIn inside R s) (fits : StoreFits s) (typed : StoreTyped (outline_of s)) (fr : Frame) (vs : List Value) (w : List Item) (ts below : List ValType) (operands : types_of vs ≡ ts ++ below) (high : n ≤ length below) (above : Above (ValueIn R s.segments) n vs) where
  -- so many operands are all inside
  top : (k : ℕ) → k ≤ length ts → EachTop (ValueIn R s.segments) k vs
  top k few = above_top (ValueIn R s.segments) n k vs (omega (arith, height vs (ts ++ below) operands, length-append ts below)) above

  one_in : (v : Value) (rest us : List Value) → us ≡ v ∷ rest → EachTop (ValueIn R s.segments) 1 us → ValueIn R s.segments v
  one_in v rest us is h = (subst (EachTop (ValueIn R s.segments) 1) is h).0

  local_looks : (x : ℕ) (us : List Value) → EachTop (ValueIn R s.segments) 1 us → InstrLooks inside R n d s c agree store fits (LocalSet x) fr us
  local_looks x [] h = tt
  local_looks x (v ∷ us) h = h.0

  tee_looks : (x : ℕ) (us : List Value) → EachTop (ValueIn R s.segments) 1 us → InstrLooks inside R n d s c agree store fits (LocalTee x) fr us
  tee_looks x [] h = tt
  tee_looks x (v ∷ us) h = h.0

  global_looks : (x : ℕ) (us : List Value) → EachTop (ValueIn R s.segments) 1 us → InstrLooks inside R n d s c agree store fits (GlobalSet x) fr us
  global_looks x [] h = tt
  global_looks x (v ∷ us) h = h.0

  load_handle_looks : (us : List Value) → EachTop (ValueIn R s.segments) 1 us → Looks (ValueIn R s.segments) LoadHandle us
  load_handle_looks (values.Handle g ∷ us) h = h.0
  load_handle_looks us h = tt

  load_looks : (op : _) (us : List Value) → EachTop (ValueIn R s.segments) 1 us → Looks (ValueIn R s.segments) (Load op) us
  load_looks op (values.Handle g ∷ us) h = h.0
  load_looks op us h = tt

  store_handle_looks : (us : List Value) → EachTop (ValueIn R s.segments) 2 us → Looks (ValueIn R s.segments) StoreHandle us
  store_handle_looks (values.Handle v ∷ values.Handle g ∷ us) h = (h.0, h.1.0)
  store_handle_looks us h = tt

  store_looks : (op : _) (us : List Value) → EachTop (ValueIn R s.segments) 2 us → Looks (ValueIn R s.segments) (StoreNumber op) us
  store_looks op (v ∷ values.Handle g ∷ us) h = h.1.0
  store_looks op us h = tt

  segment_looks : (i : SegmentInstr) (t : List ValType) → HasType (segment_type i) ts t → Looks (ValueIn R s.segments) i vs
  segment_looks LoadHandle t h = load_handle_looks vs (top 1 (let e : length ts ≡ suc (length h.0) = ap length h.1 in omega arith))
  segment_looks (Load op) t h = load_looks op vs (top 1 (let e : length ts ≡ suc (length h.0) = ap length h.1 in omega arith))
  segment_looks StoreHandle t h = store_handle_looks vs (top 2 (let e : length ts ≡ suc (suc (length h.0)) = ap length h.1 in omega arith))
  segment_looks (StoreNumber op) t h = store_looks op vs (top 2 (let e : length ts ≡ suc (suc (length h.0)) = ap length h.1 in omega arith))
  segment_looks i t h = tt

  -- ---- calls

  arguments : (g : FuncInst) (o : Option FuncInst) (us : List Value) → o ≡ Some g → EachTop (ValueIn R s.segments) (length g.ty.params) us → Arguments inside s.funcs (ValueIn R s.segments) n d o us
  arguments g o us is h = subst (λ x. Arguments inside s.funcs (ValueIn R s.segments) n d x us) (sym is) h

  target_looks : (sig : FuncType) (f : Result FuncRef CallTrap) (us : List Value) → TargetTyped (outline_of s) sig f → EachTop (ValueIn R s.segments) (length sig.params) us → TargetLooks inside R n d s c agree store fits f us
  target_looks sig (Ok f) us is h =
      arguments is.0 (slice_get s.funcs f.address) us is.1 (subst (λ (t : FuncType). EachTop (ValueIn R s.segments) (length t.params) us) (sym is.2) h)
  target_looks sig (Err e) us is h = tt

  through_looks : (table : Table) (sig : FuncType) (us : List Value) → ((i : ℕ) → TargetTyped (outline_of s) sig (target_of table.entries i sig)) → EachTop (ValueIn R s.segments) (suc (length sig.params)) us → ThroughLooks inside R n d s c agree store fits (Some table) (Some sig) us
  through_looks table sig (values.I32 i ∷ us) is h = target_looks sig (target_of table.entries i sig) us (is i) h.1
  through_looks table sig us is h = tt

  pub instr_looks : (i : Instr) (t : List ValType) → InstrTypedAt (outline_of s) fr.function (labels_of w) i ts t → InstrLooks inside R n d s c agree store fits i fr vs
  instr_looks (LocalSet x) t h = local_looks x vs (top 1 (let e = ap length h.2 in omega arith))
  instr_looks (LocalTee x) t h = tee_looks x vs (top 1 (let e = ap length h.3 in omega arith))
  instr_looks (GlobalSet x) t h = global_looks x vs (top 1 (let e = ap length h.3 in omega arith))
  instr_looks (Segment i) t h = segment_looks i t h
  instr_looks (Call x) t (sig, there, (k, r, results, before, left)) =
      let f = func_named (outline_of s) fr.function x sig there in
      let found : at s.funcs (func_address (instance_of s fr) x) ≡ Some f.1 = ap (at s.funcs) f.2 ∙ f.3 in
      let params : f.1.ty.params ≡ sig.params = ap (λ (y : FuncType). y.params) f.4 in
      let e : length ts ≡ length (reverse sig.params ++ r) = ap length before in
      arguments f.1 (at s.funcs (func_address (instance_of s fr) x)) vs found (top (length f.1.ty.params) (let same : length f.1.ty.params ≡ length sig.params = ap length params in omega (arith, length-append (reverse sig.params) r, length-reverse sig.params)))
  instr_looks (CallIndirect x) t (sig, rest, some, there, first, (k, r, results, before, left)) =
      let table = table_named (outline_of s) typed fr.function some in
      let at_table : at s.tables (table_address (instance_of s fr)) ≡ Some table.1 = ap (at s.tables) table.2 ∙ table.3 in
      let e : length ts ≡ suc (length rest) = ap length first in
      let e' : length rest ≡ length (reverse sig.params ++ r) = ap length before in
      subst (λ y. ThroughLooks inside R n d s c agree store fits y (type_at (instance_of s fr) x) vs) (sym at_table)
      (subst (λ y. ThroughLooks inside R n d s c agree store fits (Some table.1) y vs) (sym (sig_named (outline_of s) fr.function x sig there))
      (through_looks table.1 sig vs (λ i. target_typed (outline_of s) typed table.0 table.1 table.3 i sig) (top (suc (length sig.params)) (omega (arith, length-append (reverse sig.params) r, length-reverse sig.params)))))
  instr_looks i t h = tt

module _ (inside : ℕ → Bool) (R : ℕ → Type 0) (n d : ℕ) (s : Store) (c : Contents) (agree : Agree inside R s c) (store : StoreIn inside R s) (fits : StoreFits s) (typed : StoreTyped (outline_of s)) where
  looks : (fr : Frame) (vs : List Value) (w : List Item) (ts below : List ValType) → types_of vs ≡ ts ++ below → WorkTyped (outline_of s) fr.function w ts below → Above (ValueIn R s.segments) n vs → WorkIn inside s.funcs (ValueIn R s.segments) n d w → FirstLooks inside R n d s c agree store fits fr vs w
  looks fr vs [] ts below operands work above wi = tt
  looks fr vs (Do i ∷ w) ts below operands work above wi =
      instr_looks inside R n d s c agree store fits typed fr vs w ts below operands (below_high inside s.funcs (ValueIn R s.segments) n d (outline_of s) w fr.function work.0 below work.2 wi) above i work.0 work.1
  looks fr vs (Label k h g ∷ w) ts below operands work above wi = tt
  looks fr vs (Activation k h caller ∷ w) ts below operands work above wi = tt

  pub typed_looks : (t : Thread) → TaskTyped (outline_of s) t → Above (ValueIn R s.segments) n t.operands → WorkIn inside s.funcs (ValueIn R s.segments) n d t.work → FirstLooks inside R n d s c agree store fits t.frame t.operands t.work
  typed_looks t task above wi = looks t.frame t.operands t.work task.thread.ts task.thread.below task.thread.operands task.thread.work above wi
