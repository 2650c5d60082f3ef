-- A fact about each value is kept by a step, where it holds of the handles that the step makes.
use Rattle.std.proofs.Common.{◌≡◌, ℕ, List, [], ◌∷◌, Option, Some, None, Result, Ok, Err, slice_get, subst}
use Rattle.ms_event.specs.declared.event.Event.{Event}
use Rattle.ms_handle.specs.declared.handle.Handle.TheVariants as handles
use Rattle.ms_linear.specs.declared.table.CallTrap.{CallTrap}
use Rattle.ms_linear.specs.declared.table.FuncRef.{FuncRef}
use Rattle.ms_linear.specs.Table.{Table, target_of}
use Rattle.ms_linear.specs.declared.value.Value.{Value}
use Rattle.ms_linear.specs.declared.value.Value.TheVariants as values
use Rattle.ms_linear.specs.Values.{default_of}
use Rattle.ms_module.specs.declared.instr.Instr.{Instr}
use Rattle.ms_module.specs.declared.instr.Instr.TheVariants.{Unreachable, Nop, Block, Loop, If, Br, BrIf, BrTable, Return, Call, CallIndirect, Drop, Select, LocalGet, LocalSet, LocalTee, GlobalGet, GlobalSet, I32Const, I64Const, Numeric, Linear, Segment}
use Rattle.ms_segment.specs.Memory.{Memory}
use Rattle.ms_task.specs.Control as control
use Rattle.ms_task.specs.Control.{Moved, To, TooDeep, block_on, br_if_on, br_table_on, branch, call_on, if_on, loop_on, return_on}
use Rattle.ms_task.specs.Thread.{Activation, Do, Frame, Item, Label, Thread, thread}
use Rattle.ms_types.specs.declared.types.FuncType.{FuncType}
use Rattle.ms_types.specs.declared.types.ValType.{ValType}
use Rattle.ms_types.specs.declared.types.ValType.TheVariants as types
use Rattle.ms_machine.specs.refinement.Holding.{Each, EachGlobal, EachKept, ThreadHolds}
use Rattle.ms_machine.specs.Segments as segments
use Rattle.ms_machine.specs.Segments.{Effect, segment_on}
use Rattle.ms_host.specs.declared.host.Host.{Host}
use Rattle.ms_host.specs.declared.host.Host.TheVariants as hosts
use Rattle.ms_machine.specs.Step.{Calls, Next, Outcome, Stuck, Trap, act, begin, call, call_target, call_through, called, first, host_in, in_segments, moved, exited, step_of}
use Rattle.ms_machine.specs.Store.{Store, at, func_address, global_address, instance_of, memory_address, table_address, type_at}
use Rattle.ms_machine.proofs.HeldControl.{MovedHolds, block_holds, br_if_holds, br_table_holds, branch_holds, call_holds, if_holds, return_holds, exit_holds}
use Rattle.ms_machine.proofs.HeldPlain.{OutcomeHolds, drop_holds, global_held, global_set_holds, goes_holds, linear_outcome_holds, local_set_holds, local_tee_holds, pushed_holds, select_holds, worked_holds}
use Rattle.ms_machine.proofs.HeldSegments.{Fresh, FreshBy, in_segments_holds, segment_holds}
use Rattle.ms_machine.proofs.HeldValues.{each_get, global_grows, holds, thread_grows}

-- ---- one fact, before and after

module _ (P : Value → Type 0) (int32 : (n : ℕ) → P (values.I32 n)) (int64 : (n : ℕ) → P (values.I64 n)) (null : P (values.Handle handles.Null)) where
  default_holds : (ty : ValType) → P (default_of ty)
  default_holds types.I32 = int32 0
  default_holds types.I64 = int64 0
  default_holds types.Handle = null

  moved_holds : (s : Store) (m : Moved) → EachGlobal P s.globals → MovedHolds P m → OutcomeHolds P (moved s m)
  moved_holds s (To t) g h = (g, h)
  moved_holds s TooDeep g h = tt
  moved_holds s control.Stuck g h = tt

  called_holds : (s : Store) (address : Option ℕ) (fr : Frame) (vs : List Value) (w : List Item) → EachGlobal P s.globals → Each P vs → Each P fr.locals → EachKept P w → OutcomeHolds P (call s (thread fr vs w) address)
  called_holds s None fr vs w g a b d = tt
  called_holds s (Some x) fr vs w g a b d = by (host_in (slice_get s.funcs x)) where
    by : (h : Option Host) → OutcomeHolds P (called s x (thread fr vs w) h)
    by None = moved_holds s (call_on s.funcs x (thread fr vs w)) g (call_holds P default_holds s.funcs x fr vs w a b d)
    by (Some hosts.Abort) = tt
    by (Some h) = holds P fr vs w a b d

  target_holds : (s : Store) (f : Result FuncRef CallTrap) (fr : Frame) (vs : List Value) (w : List Item) → EachGlobal P s.globals → Each P vs → Each P fr.locals → EachKept P w → OutcomeHolds P (call_target s (thread fr vs w) f)
  target_holds s (Ok f) fr vs w g a b d = called_holds s (Some f.address) fr vs w g a b d
  target_holds s (Err e) fr vs w g a b d = tt

  through_holds : (s : Store) (table : Option Table) (sig : Option FuncType) (fr : Frame) (vs us : List Value) (w : List Item) → EachGlobal P s.globals → Each P us → Each P fr.locals → EachKept P w → OutcomeHolds P (call_through s (thread fr vs w) table sig us)
  through_holds s (Some table) (Some sig) fr vs (values.I32 i ∷ us) w g a b d = target_holds s (target_of table.entries i sig) fr us w g a.1 b d
  through_holds s table sig fr vs us w g a b d = tt

  pub instr_holds : (s : Store) (i : Instr) (fr : Frame) (vs : List Value) (w : List Item) → EachGlobal P s.globals → Each P vs → Each P fr.locals → EachKept P w → FreshBy P i s.segments vs → OutcomeHolds P (act s i (thread fr vs w))
  instr_holds s Unreachable fr vs w g a b d fresh = tt
  instr_holds s Nop fr vs w g a b d fresh = goes_holds P s fr vs vs w g a b d
  instr_holds s (Block ty body) fr vs w g a b d fresh = moved_holds s (block_on s.funcs body ty None (thread fr vs w)) g (block_holds P s.funcs body ty None fr vs w a b d)
  instr_holds s (Loop ty body) fr vs w g a b d fresh = moved_holds s (loop_on s.funcs ty body (thread fr vs w)) g (block_holds P s.funcs body None (Some (Loop ty body)) fr vs w a b d)
  instr_holds s (If ty arm other) fr vs w g a b d fresh = moved_holds s (if_on s.funcs arm other ty (thread fr vs w)) g (if_holds P s.funcs arm other ty fr vs w a b d)
  instr_holds s (Br l) fr vs w g a b d fresh = moved_holds s (branch l fr vs w) g (branch_holds P l fr vs w a b d)
  instr_holds s (BrIf l) fr vs w g a b d fresh = moved_holds s (br_if_on l (thread fr vs w)) g (br_if_holds P l fr vs w a b d)
  instr_holds s (BrTable table) fr vs w g a b d fresh = moved_holds s (br_table_on table.labels table.default (thread fr vs w)) g (br_table_holds P table.labels table.default fr vs w a b d)
  instr_holds s Return fr vs w g a b d fresh = moved_holds s (return_on vs w) g (return_holds P vs w a d)
  instr_holds s (Call x) fr vs w g a b d fresh = called_holds s (func_address (instance_of s fr) x) fr vs w g a b d
  instr_holds s (CallIndirect x) fr vs w g a b d fresh = through_holds s (at s.tables (table_address (instance_of s fr))) (type_at (instance_of s fr) x) fr vs vs w g a b d
  instr_holds s Drop fr vs w g a b d fresh = drop_holds P s fr vs vs w g a b d
  instr_holds s Select fr vs w g a b d fresh = select_holds P s fr vs vs w g a b d
  instr_holds s (LocalGet x) fr vs w g a b d fresh = pushed_holds P s fr vs w (slice_get fr.locals x) g a b d (each_get P fr.locals x b)
  instr_holds s (LocalSet x) fr vs w g a b d fresh = local_set_holds P s x fr vs vs w g a b d
  instr_holds s (LocalTee x) fr vs w g a b d fresh = local_tee_holds P s x fr vs vs w g a b d
  instr_holds s (GlobalGet x) fr vs w g a b d fresh = pushed_holds P s fr vs w _ g a b d (global_held P s.globals (global_address (instance_of s fr) x) g)
  instr_holds s (GlobalSet x) fr vs w g a b d fresh = global_set_holds P s (global_address (instance_of s fr) x) fr vs vs w g a b d
  instr_holds s (I32Const n) fr vs w g a b d fresh = goes_holds P s fr vs (values.I32 _ ∷ vs) w g (int32 _, a) b d
  instr_holds s (I64Const n) fr vs w g a b d fresh = goes_holds P s fr vs (values.I64 _ ∷ vs) w g (int64 _, a) b d
  instr_holds s (Numeric i) fr vs w g a b d fresh = worked_holds P int32 int64 s i fr vs w g a b d
  instr_holds s (Linear i) fr vs w g a b d fresh = linear_outcome_holds P int32 int64 s i (memory_address (instance_of s fr)) fr vs w g a b d
  instr_holds s (Segment i) fr vs w g a b d fresh = in_segments_holds P s fr vs w (segment_on i s.segments vs) g (segment_holds P int32 int64 null i s.segments vs a fresh) b d

  first_holds : (s : Store) (fr : Frame) (vs : List Value) (w : List Item) → EachGlobal P s.globals → Each P vs → Each P fr.locals → EachKept P w → Fresh P s.segments vs w → OutcomeHolds P (first s fr vs w)
  first_holds s fr vs [] g a b d fresh = tt
  first_holds s fr vs (Do i ∷ w) g a b d fresh = instr_holds s i fr vs w g a b d fresh
  first_holds s fr vs (Label k h i ∷ w) g a b d fresh = tt
  first_holds s fr vs (Activation k h caller ∷ w) g a b d fresh = tt

  exited_holds : (o : Outcome) → OutcomeHolds P o → OutcomeHolds P (exited o)
  exited_holds (Next s t event) h = (h.0, exit_holds P t.frame t.operands t.work h.1.operands h.1.locals h.1.kept)
  exited_holds (Calls host t) h = h
  exited_holds (Trap trap) h = tt
  exited_holds Stuck h = tt

  stepped_holds : (s : Store) (t : Thread) → EachGlobal P s.globals → ThreadHolds P t → Fresh P s.segments t.operands t.work → OutcomeHolds P (step_of s t)
  stepped_holds s t g h fresh = exited_holds (begin s t) (first_holds s t.frame t.operands t.work g h.operands h.locals h.kept fresh)

-- ---- a call of the host

segments_call_none : (s : Store) (t u : Thread) (e : Effect) (host : Host) → exited (in_segments s t e) ≡ Calls host u → ⊥
segments_call_none s t u (segments.Gives vs m event) host is = cc
segments_call_none s t u (segments.Trap trap) host is = cc
segments_call_none s t u segments.Stuck host is = cc

module _ (P : Value → Type 0) (s : Store) (u : Thread) (host : Host) where
  fresh_call : (i : Instr) (fr : Frame) (vs : List Value) (w : List Item) → exited (act s i (thread fr vs w)) ≡ Calls host u → FreshBy P i s.segments vs
  fresh_call (Segment i) fr vs w is = absurd (segments_call_none s (thread fr vs w) u (segment_on i s.segments vs) host is)
  fresh_call i fr vs w is = tt

  fresh_first : (fr : Frame) (vs : List Value) (w : List Item) → exited (first s fr vs w) ≡ Calls host u → Fresh P s.segments vs w
  fresh_first fr vs [] is = tt
  fresh_first fr vs (Do i ∷ w) is = fresh_call i fr vs w is
  fresh_first fr vs (Label k h i ∷ w) is = tt
  fresh_first fr vs (Activation k h caller ∷ w) is = tt

-- what holds of each value of a thread holds of each behind a call of the host
pub stepped_calls : (P : Value → Type 0) → ((n : ℕ) → P (values.I32 n)) → ((n : ℕ) → P (values.I64 n)) → P (values.Handle handles.Null) → (s : Store) (t u : Thread) (host : Host) → EachGlobal P s.globals → ThreadHolds P t → step_of s t ≡ Calls host u → ThreadHolds P u
stepped_calls P int32 int64 null s t u host g h is = subst (OutcomeHolds P) is (stepped_holds P int32 int64 null s t g h (fresh_first P s u host t.frame t.operands t.work is))

-- ---- a fact that grows: what held before holds afterwards

-- It holds of all values after a step, where it holds of numbers, of the null handle, of what it held of before, and of
-- the handle that the instruction makes.
pub step_holds_after : (P Q : Value → Type 0) → ((n : ℕ) → Q (values.I32 n)) → ((n : ℕ) → Q (values.I64 n)) → Q (values.Handle handles.Null) → ((v : Value) → P v → Q v) → (s s' : Store) (t t' : Thread) (event : Option Event) → Fresh Q s.segments t.operands t.work → EachGlobal P s.globals → ThreadHolds P t → step_of s t ≡ Next s' t' event → ThreadHolds Q t' × EachGlobal Q s'.globals
step_holds_after P Q int32 int64 null grows s s' t t' event fresh g h is =
    let all = subst (OutcomeHolds Q) is (stepped_holds Q int32 int64 null s t (global_grows P Q grows s.globals g) (thread_grows P Q grows t h) fresh) in
    (all.1, all.0)

-- ---- the same of a fact about the segment memory

pub step_holds : (P : Memory → Value → Type 0) → ((m : Memory) (n : ℕ) → P m (values.I32 n)) → ((m : Memory) (n : ℕ) → P m (values.I64 n)) → ((m : Memory) → P m (values.Handle handles.Null)) → (s s' : Store) (t t' : Thread) (event : Option Event) → ((v : Value) → P s.segments v → P s'.segments v) → Fresh (P s'.segments) s.segments t.operands t.work → ThreadHolds (P s.segments) t → EachGlobal (P s.segments) s.globals → step_of s t ≡ Next s' t' event → ThreadHolds (P s'.segments) t' × EachGlobal (P s'.segments) s'.globals
step_holds P int32 int64 null s s' t t' event grows fresh h g is =
    step_holds_after (P s.segments) (P s'.segments) (int32 s'.segments) (int64 s'.segments) (null s'.segments) grows s s' t t' event fresh g h is
