-- A step on two stores that agree on what instances and a thread reach.
use Rattle.std.proofs.Common.{◌≡◌, ℕ, zero, suc, Bool, true, List, [], ◌∷◌, Option, Some, None, Result, Ok, Err, slice_get, refl, sym, ap, subst, ◌∙◌}
use Rattle.ms_event.specs.declared.event.Event.{Event}
use Rattle.ms_linear.specs.declared.global.GlobalInst.{GlobalInst}
use Rattle.ms_linear.specs.declared.table.CallTrap.{CallTrap}
use Rattle.ms_linear.specs.declared.table.FuncRef.{FuncRef}
use Rattle.ms_linear.specs.Table.{Table, target_of}
use Rattle.ms_linear.specs.declared.value.Value.{Value}
use Rattle.ms_linear.specs.declared.value.Value.TheVariants as values
use Rattle.ms_linear.specs.Values.{default_of}
use Rattle.ms_module.specs.declared.instr.Instr.{Instr}
use Rattle.ms_module.specs.declared.instr.Instr.TheVariants.{Unreachable, Nop, Block, Loop, If, Br, BrIf, BrTable, Return, Call, CallIndirect, Drop, Select, LocalGet, LocalSet, LocalTee, GlobalGet, GlobalSet, I32Const, I64Const, Numeric, Linear, Segment}
use Rattle.ms_segment.specs.Memory.{Memory}
use Rattle.ms_task.specs.Control as control
use Rattle.ms_task.specs.Control.{Moved, To, TooDeep, block_on, br_if_on, br_table_on, branch, call_on, if_on, loop_on, return_on, exited as exited_thread}
use Rattle.ms_task.specs.declared.func.FuncInst.{FuncInst}
use Rattle.ms_task.specs.Thread.{Frame, Item, thread}
use Rattle.ms_types.specs.declared.types.FuncType.{FuncType}
use Rattle.ms_types.specs.declared.types.ValType.{ValType}
use Rattle.ms_types.specs.declared.types.ValType.TheVariants as types
use Rattle.ms_machine.specs.refinement.Holding.{Each, EachGlobal, EachKept, Fits, StoreFits, ThreadFits}
use Rattle.ms_machine.specs.Segments as segments
use Rattle.ms_machine.specs.Segments.{Effect, segment_on}
use Rattle.ms_host.specs.declared.host.Host.{Host}
use Rattle.ms_host.specs.declared.host.Host.TheVariants as hosts
use Rattle.ms_machine.specs.Step.{act, call, call_target, call_through, called, host_in, in_segments, moved, on_top, set_global, set_local}
use Rattle.ms_machine.specs.Store.{Store, at, func_address, global_address, instance_of, memory_address, number_of_instance, table_address, type_at, with_segments}
use Rattle.ms_reach.specs.Confined.{Agree, Contents, grown, with_contents}
use Rattle.ms_reach.specs.Reach.{IsOwnGlobal, IsOwnMemory, IsOwnTable, is_in, is_inside}
use Rattle.ms_reach.proofs.Inside.{Above, WorkIn, each_both_grows, in_holds, work_grows}
use Rattle.ms_reach.proofs.Control.{Arguments, MovedIn, block_in, br_if_in, br_table_in, branch_in, call_in, if_in, return_in}
use Rattle.ms_reach.proofs.Spots.{ValueIn}
use Rattle.ms_reach.proofs.Bytes.{EffectsAgree, Looks, MemoryStep, segment_agree}
use Rattle.ms_reach.proofs.Plain.{OutcomesAgree, StoreIn, drop_agree, get_in, global_get_agree, global_set_agree, goes_agree, linear_agree, pushed_agree, same_after, select_agree, set_local_agree, worked_agree}
use Rattle.ms_reach.proofs.Lists.{differ_same}

own_by : (inside : ℕ → Bool) (s : Store) (o : Option FuncInst) → is_in inside o ≡ true → (k : ℕ) × (inside k ≡ true) × (at s.instances (number_of_instance o) ≡ slice_get s.instances k)
own_by inside s None is = absurd (cc)
own_by inside s (Some f) is = (f.instance, is, refl)

module _ (inside : ℕ → Bool) (R : ℕ → Type 0) (n d : ℕ) (s : Store) (c : Contents) (agree : Agree inside R s c) (store : StoreIn inside R s) (fits : StoreFits s) where
  -- ---- places of the instance that runs

  own_global : (fr : Frame) (x a : ℕ) → is_inside inside s.funcs fr ≡ true → global_address (instance_of s fr) x ≡ Some a → IsOwnGlobal inside s a
  own_global fr x a here is =
      let own = own_by inside s (slice_get s.funcs fr.function) here in
      (own.0, x, own.1, ap (λ i. global_address i x) (sym own.2) ∙ is)

  own_memory : (fr : Frame) (a : ℕ) → is_inside inside s.funcs fr ≡ true → memory_address (instance_of s fr) ≡ Some a → IsOwnMemory inside s a
  own_memory fr a here is =
      let own = own_by inside s (slice_get s.funcs fr.function) here in
      (own.0, own.1, ap memory_address (sym own.2) ∙ is)

  own_table : (fr : Frame) (a : ℕ) → is_inside inside s.funcs fr ≡ true → table_address (instance_of s fr) ≡ Some a → IsOwnTable inside s a
  own_table fr a here is =
      let own = own_by inside s (slice_get s.funcs fr.function) here in
      (own.0, own.1, ap table_address (sym own.2) ∙ is)

  same_table : (o : Option ℕ) → ((a : ℕ) → o ≡ Some a → IsOwnTable inside s a) → at c.tables o ≡ at s.tables o
  same_table None own = refl
  same_table (Some a) own = agree.tables a (own a refl)

  -- ---- calls

  default_in : (ty : ValType) → ValueIn R s.segments (default_of ty)
  default_in types.I32 = λ address leads. absurd leads
  default_in types.I64 = λ address leads. absurd leads
  default_in types.Handle = λ address leads. absurd leads

  moved_agree : (m : Moved) → MovedIn inside s.funcs (ValueIn R s.segments) n d m → OutcomesAgree inside R n d s c (moved s m) (moved (with_contents s c) m)
  moved_agree (To t) h = (refl, refl, same_after inside R n d s c agree store, h)
  moved_agree TooDeep h = refl
  moved_agree control.Stuck h = tt

  -- what a call looks at
  abbrev pub TargetLooks : Result FuncRef CallTrap → List Value → Type 0
  TargetLooks (Ok f) vs = Arguments inside s.funcs (ValueIn R s.segments) n d (slice_get s.funcs f.address) vs
  TargetLooks (Err e) vs = Unit {0}

  abbrev pub ThroughLooks : Option Table → Option FuncType → List Value → Type 0
  ThroughLooks (Some table) (Some sig) (values.I32 i ∷ vs) = TargetLooks (target_of table.entries i sig) vs
  ThroughLooks table sig vs = Unit {0}

  called_agree : (a : ℕ) (fr : Frame) (vs : List Value) (w : List Item) → is_inside inside s.funcs fr ≡ true → Arguments inside s.funcs (ValueIn R s.segments) n d (slice_get s.funcs a) vs → Above (ValueIn R s.segments) n vs → Each (ValueIn R s.segments) fr.locals → WorkIn inside s.funcs (ValueIn R s.segments) n d w → (h : Option Host) → OutcomesAgree inside R n d s c (called s a (thread fr vs w) h) (called (with_contents s c) a (thread fr vs w) h)
  called_agree a fr vs w here top x y z None = moved_agree (call_on s.funcs a (thread fr vs w)) (call_in inside s.funcs (ValueIn R s.segments) n d default_in a fr vs w here top x y z)
  called_agree a fr vs w here top x y z (Some hosts.Abort) = refl
  called_agree a fr vs w here top x y z (Some h) = (refl, refl, in_holds inside s.funcs (ValueIn R s.segments) n d fr vs w x y z)

  call_agree : (o : Option ℕ) (fr : Frame) (vs : List Value) (w : List Item) → is_inside inside s.funcs fr ≡ true → Arguments inside s.funcs (ValueIn R s.segments) n d (at s.funcs o) vs → Above (ValueIn R s.segments) n vs → Each (ValueIn R s.segments) fr.locals → WorkIn inside s.funcs (ValueIn R s.segments) n d w → OutcomesAgree inside R n d s c (call s (thread fr vs w) o) (call (with_contents s c) (thread fr vs w) o)
  call_agree None fr vs w here top x y z = tt
  call_agree (Some a) fr vs w here top x y z = called_agree a fr vs w here top x y z (host_in (slice_get s.funcs a))

  target_agree : (f : Result FuncRef CallTrap) (fr : Frame) (vs : List Value) (w : List Item) → is_inside inside s.funcs fr ≡ true → TargetLooks f vs → Above (ValueIn R s.segments) n vs → Each (ValueIn R s.segments) fr.locals → WorkIn inside s.funcs (ValueIn R s.segments) n d w → OutcomesAgree inside R n d s c (call_target s (thread fr vs w) f) (call_target (with_contents s c) (thread fr vs w) f)
  target_agree (Ok f) fr vs w here top x y z = called_agree f.address fr vs w here top x y z (host_in (slice_get s.funcs f.address))
  target_agree (Err e) fr vs w here top x y z = refl

  through_agree : (table : Option Table) (sig : Option FuncType) (fr : Frame) (vs us : List Value) (w : List Item) → is_inside inside s.funcs fr ≡ true → ThroughLooks table sig us → Above (ValueIn R s.segments) n us → Each (ValueIn R s.segments) fr.locals → WorkIn inside s.funcs (ValueIn R s.segments) n d w → OutcomesAgree inside R n d s c (call_through s (thread fr vs w) table sig us) (call_through (with_contents s c) (thread fr vs w) table sig us)
  through_agree (Some table) (Some sig) fr vs (values.I32 i ∷ us) w here top x y z = target_agree (target_of table.entries i sig) fr us w here top x.1 y z
  through_agree table sig fr vs us w here top x y z = tt

  -- ---- handles and segments

  value_grows : (m1 m2 : Memory) (event : Option Event) → MemoryStep R n s.segments c.bytes c.accesses m1 m2 event → (v : Value) → Fits s.segments v → ValueIn R s.segments v → ValueIn (grown R event) m1 v
  value_grows m1 m2 event step (values.I32 k) fit known = λ address leads. absurd leads
  value_grows m1 m2 event step (values.I64 k) fit known = λ address leads. absurd leads
  value_grows m1 m2 event step (values.Handle h) fit known = step.grows h fit known

  global_fits : (gs : List GlobalInst) (a : ℕ) (g : GlobalInst) → EachGlobal (Fits s.segments) gs → slice_get gs a ≡ Some g → Fits s.segments g.value
  global_fits [] a g h is = absurd (cc)
  global_fits (x ∷ gs) zero g h is = let same : x ≡ g = cc in subst (λ (y : GlobalInst). Fits s.segments y.value) same h.0
  global_fits (x ∷ gs) (suc a) g h is = global_fits gs a g h.1 is

  segments_agree : (fr : Frame) (vs : List Value) (w : List Item) → Each (Fits s.segments) fr.locals → EachKept (Fits s.segments) w → Each (ValueIn R s.segments) fr.locals → WorkIn inside s.funcs (ValueIn R s.segments) n d w → (e f : Effect) → EffectsAgree R n s.segments c.bytes c.accesses e f → OutcomesAgree inside R n d s c (in_segments s (thread fr vs w) e) (in_segments (with_contents s c) (thread fr vs w) f)
  segments_agree fr vs w fit-locals fit-work y z (segments.Gives us m1 event) (segments.Gives us' m2 event') h =
      let step = h.2 in (
        ap (λ (xs : List Value). thread fr xs w) h.0,
        h.1,
        record {
          contents = record { globals = c.globals; memories = c.memories; tables = c.tables; bytes = m2.bytes; accesses = m2.accesses };
          is = ap (λ (m : Memory). with_segments (with_contents s c) m) step.is;
          funcs = refl;
          instances = refl;
          stays = record { globals = differ_same (IsOwnGlobal inside s) s.globals c.globals; memories = differ_same (IsOwnMemory inside s) s.memories c.memories; tables = (refl, refl); bytes = step.differ };
          agree = record { globals = agree.globals; memories = agree.memories; tables = agree.tables; capacity = step.capacity; bytes = step.agree };
          store = record {
            globals = λ a g mine there. value_grows m1 m2 event step g.value (global_fits s.globals a g fits.globals there) (store.globals a g mine there);
            pieces = step.pieces;
          };
        },
        λ stays. in_holds inside s.funcs (ValueIn (grown R event) m1) n d fr us w h.3
            (each_both_grows (Fits s.segments) (ValueIn R s.segments) (ValueIn (grown R event) m1) (value_grows m1 m2 event step) fr.locals fit-locals y)
            (work_grows (Fits s.segments) (ValueIn R s.segments) (ValueIn (grown R event) m1) (value_grows m1 m2 event step) inside s.funcs n d w fit-work z),
      )
  segments_agree fr vs w fit-locals fit-work y z (segments.Trap why) (segments.Trap why') h = h
  segments_agree fr vs w fit-locals fit-work y z segments.Stuck segments.Stuck h = tt
  segments_agree fr vs w fit-locals fit-work y z _ _ h = absurd h

  -- ---- each instruction

  -- what an instruction looks at, or puts where the instance keeps it
  abbrev pub InstrLooks : Instr → Frame → List Value → Type 0
  InstrLooks (Call x) fr vs = Arguments inside s.funcs (ValueIn R s.segments) n d (at s.funcs (func_address (instance_of s fr) x)) vs
  InstrLooks (CallIndirect x) fr vs = ThroughLooks (at s.tables (table_address (instance_of s fr))) (type_at (instance_of s fr) x) vs
  InstrLooks (LocalSet x) fr (v ∷ vs) = ValueIn R s.segments v
  InstrLooks (LocalTee x) fr (v ∷ vs) = ValueIn R s.segments v
  InstrLooks (GlobalSet x) fr (v ∷ vs) = ValueIn R s.segments v
  InstrLooks (Segment i) fr vs = Looks (ValueIn R s.segments) i vs
  InstrLooks i fr vs = Unit {0}

  local_set_agree : (x : ℕ) (fr : Frame) (vs us : List Value) (w : List Item) → InstrLooks (LocalSet x) fr us → Above (ValueIn R s.segments) n us → Each (ValueIn R s.segments) fr.locals → WorkIn inside s.funcs (ValueIn R s.segments) n d w → OutcomesAgree inside R n d s c (on_top us (λ v rest. set_local s (thread fr vs w) x v rest)) (on_top us (λ v rest. set_local (with_contents s c) (thread fr vs w) x v rest))
  local_set_agree x fr vs [] w look a b z = tt
  local_set_agree x fr vs (v ∷ us) w look a b z = set_local_agree inside R n d s c agree store fr vs us w x v a.1 b z look

  local_tee_agree : (x : ℕ) (fr : Frame) (vs us : List Value) (w : List Item) → InstrLooks (LocalTee x) fr us → Above (ValueIn R s.segments) n us → Each (ValueIn R s.segments) fr.locals → WorkIn inside s.funcs (ValueIn R s.segments) n d w → OutcomesAgree inside R n d s c (on_top us (λ v rest. set_local s (thread fr vs w) x v (v ∷ rest))) (on_top us (λ v rest. set_local (with_contents s c) (thread fr vs w) x v (v ∷ rest)))
  local_tee_agree x fr vs [] w look a b z = tt
  local_tee_agree x fr vs (v ∷ us) w look a b z = set_local_agree inside R n d s c agree store fr vs (v ∷ us) w x v a b z look

  set_agree : (x : ℕ) (o : Option ℕ) (fr : Frame) (vs us : List Value) (w : List Item) → ((a : ℕ) → o ≡ Some a → IsOwnGlobal inside s a) → InstrLooks (GlobalSet x) fr us → Above (ValueIn R s.segments) n us → Each (ValueIn R s.segments) fr.locals → WorkIn inside s.funcs (ValueIn R s.segments) n d w → OutcomesAgree inside R n d s c (on_top us (λ v rest. set_global s (thread fr vs w) o v rest)) (on_top us (λ v rest. set_global (with_contents s c) (thread fr vs w) o v rest))
  set_agree x o fr vs [] w own look a b z = tt
  set_agree x o fr vs (v ∷ us) w own look a b z = global_set_agree inside R n d s c agree store fr vs us w o v own a.1 b z look

  pub act_agree : (i : Instr) (fr : Frame) (vs : List Value) (w : List Item) → is_inside inside s.funcs fr ≡ true → ThreadFits s (thread fr vs w) → InstrLooks i fr vs → Above (ValueIn R s.segments) n vs → Each (ValueIn R s.segments) fr.locals → WorkIn inside s.funcs (ValueIn R s.segments) n d w → OutcomesAgree inside R n d s c (act s i (thread fr vs w)) (act (with_contents s c) i (thread fr vs w))
  act_agree Unreachable fr vs w here f look a b z = refl
  act_agree Nop fr vs w here f look a b z = goes_agree inside R n d s c agree store fr vs vs w a b z
  act_agree (Block ty body) fr vs w here f look a b z = moved_agree (block_on s.funcs body ty None (thread fr vs w)) (block_in inside s.funcs (ValueIn R s.segments) n d body ty None fr vs w a b z)
  act_agree (Loop ty body) fr vs w here f look a b z = moved_agree (loop_on s.funcs ty body (thread fr vs w)) (block_in inside s.funcs (ValueIn R s.segments) n d body None (Some (Loop ty body)) fr vs w a b z)
  act_agree (If ty arm other) fr vs w here f look a b z = moved_agree (if_on s.funcs arm other ty (thread fr vs w)) (if_in inside s.funcs (ValueIn R s.segments) n d arm other ty fr vs w a b z)
  act_agree (Br l) fr vs w here f look a b z = moved_agree (branch l fr vs w) (branch_in inside s.funcs (ValueIn R s.segments) n d l fr vs w a b z)
  act_agree (BrIf l) fr vs w here f look a b z = moved_agree (br_if_on l (thread fr vs w)) (br_if_in inside s.funcs (ValueIn R s.segments) n d l fr vs w a b z)
  act_agree (BrTable table) fr vs w here f look a b z = moved_agree (br_table_on table.labels table.default (thread fr vs w)) (br_table_in inside s.funcs (ValueIn R s.segments) n d table.labels table.default fr vs w a b z)
  act_agree Return fr vs w here f look a b z = moved_agree (return_on vs w) (return_in inside s.funcs (ValueIn R s.segments) n d vs w a z)
  act_agree (Call x) fr vs w here f look a b z = call_agree (func_address (instance_of s fr) x) fr vs w here look a b z
  act_agree (CallIndirect x) fr vs w here f look a b z =
      subst (λ o. OutcomesAgree inside R n d s c (call_through s (thread fr vs w) (at s.tables (table_address (instance_of s fr))) (type_at (instance_of s fr) x) vs) (call_through (with_contents s c) (thread fr vs w) o (type_at (instance_of s fr) x) vs)) (sym (same_table (table_address (instance_of s fr)) (λ k is. own_table fr k here is)))
      (through_agree (at s.tables (table_address (instance_of s fr))) (type_at (instance_of s fr) x) fr vs vs w here look a b z)
  act_agree Drop fr vs w here f look a b z = drop_agree inside R n d s c agree store fr vs vs w a b z
  act_agree Select fr vs w here f look a b z = select_agree inside R n d s c agree store fr vs vs w a b z
  act_agree (LocalGet x) fr vs w here f look a b z = pushed_agree inside R n d s c agree store fr vs w (slice_get fr.locals x) a b z (get_in inside R n d s c agree store fr.locals x b)
  act_agree (LocalSet x) fr vs w here f look a b z = local_set_agree x fr vs vs w look a b z
  act_agree (LocalTee x) fr vs w here f look a b z = local_tee_agree x fr vs vs w look a b z
  act_agree (GlobalGet x) fr vs w here f look a b z = global_get_agree inside R n d s c agree store fr vs w (global_address (instance_of s fr) x) (λ k is. own_global fr x k here is) a b z
  act_agree (GlobalSet x) fr vs w here f look a b z = set_agree x (global_address (instance_of s fr) x) fr vs vs w (λ k is. own_global fr x k here is) look a b z
  act_agree (I32Const k) fr vs w here f look a b z = goes_agree inside R n d s c agree store fr vs (values.I32 _ ∷ vs) w (λ room address leads. absurd leads, a) b z
  act_agree (I64Const k) fr vs w here f look a b z = goes_agree inside R n d s c agree store fr vs (values.I64 _ ∷ vs) w (λ room address leads. absurd leads, a) b z
  act_agree (Numeric i) fr vs w here f look a b z = worked_agree inside R n d s c agree store i fr vs w a b z
  act_agree (Linear i) fr vs w here f look a b z = linear_agree inside R n d s c agree store i (memory_address (instance_of s fr)) fr vs w (λ k is. own_memory fr k here is) a b z
  act_agree (Segment i) fr vs w here f look a b z =
      segments_agree fr vs w f.locals f.kept b z (segment_on i s.segments vs) (segment_on i (with_contents s c).segments vs)
      (segment_agree R n s.segments c.bytes c.accesses fits.segments agree.capacity agree.bytes store.pieces i vs f.operands a look)
