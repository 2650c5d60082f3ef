-- A fact about each value is kept by instructions on handles and segments, where it holds of the handles that they make.
use Rattle.std.proofs.Common.{ℕ, List, ◌∷◌, Option, Some, None, Result, Ok, Err, ℤ}
use Rattle.ms_num.specs.Integers.{signed}
use Rattle.ms_event.specs.declared.event.Event.{Event}
use Rattle.ms_handle.specs.Handle.{add, difference, seal, slice}
use Rattle.ms_handle.specs.declared.handle.Apart.{Apart}
use Rattle.ms_handle.specs.declared.handle.Handle.{Handle as H}
use Rattle.ms_handle.specs.declared.handle.Handle.TheVariants as handles
use Rattle.ms_linear.specs.declared.value.Value.{Value}
use Rattle.ms_linear.specs.declared.value.Value.TheVariants.{I32, I64, Handle}
use Rattle.ms_module.specs.Accesses.{load_bytes, store_bytes}
use Rattle.ms_module.specs.declared.access.LoadOp.{LoadOp}
use Rattle.ms_module.specs.declared.access.Segment.{Segment}
use Rattle.ms_module.specs.declared.access.Segment.TheVariants.{Null, New, Free, Add, Slice, Eq, IsNull, Diff, LoadHandle, StoreHandle, Load, Store, Seal}
use Rattle.ms_module.specs.declared.instr.Instr.{Instr}
use Rattle.ms_module.specs.declared.instr.Instr.TheVariants as instrs
use Rattle.ms_operate.specs.Accesses.{number_of, width_of}
use Rattle.ms_segment.specs.Calls as call
use Rattle.ms_segment.specs.Calls.{Change}
use Rattle.ms_segment.specs.Memory.{Memory, loaded}
use Rattle.ms_segment.specs.declared.trap.SegTrap.{SegTrap}
use Rattle.ms_task.specs.Thread.{Do, Frame, Item, thread}
use Rattle.ms_machine.specs.refinement.Holding.{Each, EachGlobal, EachKept}
use Rattle.ms_machine.specs.Segments as segments
use Rattle.ms_machine.specs.Segments.{Effect, changed, handle_read, measured, number_read, number_stored, segment_on}
use Rattle.ms_machine.specs.Step.{in_segments}
use Rattle.ms_machine.specs.Store as stores
use Rattle.ms_machine.proofs.HeldPlain.{OutcomeHolds, value_holds}
use Rattle.ms_machine.proofs.HeldValues.{holds}

-- ---- the handles that an instruction makes

module _ (P : Value → Type 0) where
  abbrev pub FreshRead : Result (H × Event) SegTrap → Type 0
  FreshRead (Ok x) = P (Handle x.0)
  FreshRead (Err e) = Unit {0}

  -- the fact holds of the handle that is made, added to, cut out, sealed or read
  abbrev pub FreshIn : Segment → Memory → List Value → Type 0
  FreshIn (New kind) m (I32 n ∷ rest) = P (Handle (call.make m n kind).handle)
  FreshIn (Add scale) m (I64 delta ∷ Handle h ∷ rest) = P (Handle (add h (signed 64 delta) scale))
  FreshIn Slice m (I32 len ∷ I32 from ∷ Handle h ∷ rest) = P (Handle (slice h from len))
  FreshIn Seal m (Handle h ∷ rest) = P (Handle (seal h))
  FreshIn LoadHandle m (Handle h ∷ rest) = FreshRead (call.load_handle m h)
  FreshIn i m vs = Unit {0}

  abbrev pub FreshBy : Instr → Memory → List Value → Type 0
  FreshBy (instrs.Segment i) m vs = FreshIn i m vs
  FreshBy i m vs = Unit {0}

  -- the same of what comes first
  abbrev pub Fresh : Memory → List Value → List Item → Type 0
  Fresh m vs (Do i ∷ w) = FreshBy i m vs
  Fresh m vs w = Unit {0}

  -- ---- what they leave

  abbrev pub EffectHolds : Effect → Type 0
  EffectHolds (segments.Gives vs m event) = Each P vs
  EffectHolds (segments.Trap trap) = Unit {0}
  EffectHolds segments.Stuck = Unit {0}

  changed_holds : (rest : List Value) (c : Result Change SegTrap) → Each P rest → EffectHolds (changed rest c)
  changed_holds rest (Ok c) a = a
  changed_holds rest (Err e) a = tt

  read_holds : (m : Memory) (rest : List Value) (r : Result (H × Event) SegTrap) → FreshRead r → Each P rest → EffectHolds (handle_read m rest r)
  read_holds m rest (Ok x) fresh a = (fresh, a)
  read_holds m rest (Err e) fresh a = tt

  stored_holds : (m : Memory) (rest : List Value) (h : H) (width : ℕ) (n : Option ℕ) → Each P rest → EffectHolds (number_stored m rest h width n)
  stored_holds m rest h width None a = tt
  stored_holds m rest h width (Some n) a = changed_holds rest (call.store m h width n) a

  pub in_segments_holds : (s : stores.Store) (fr : Frame) (vs : List Value) (w : List Item) (e : Effect) → EachGlobal P s.globals → EffectHolds e → Each P fr.locals → EachKept P w → OutcomeHolds P (in_segments s (thread fr vs w) e)
  in_segments_holds s fr vs w (segments.Gives us m event) g h b d = (g, holds P fr us w h b d)
  in_segments_holds s fr vs w (segments.Trap trap) g h b d = tt
  in_segments_holds s fr vs w segments.Stuck g h b d = tt

module _ (P : Value → Type 0) (int32 : (n : ℕ) → P (I32 n)) (int64 : (n : ℕ) → P (I64 n)) (null : P (Handle handles.Null)) where
  measured_holds : (m : Memory) (rest : List Value) (r : Result ℤ Apart) → Each P rest → EffectHolds P (measured m rest r)
  measured_holds m rest (Ok n) a = (int64 _, a)
  measured_holds m rest (Err e) a = tt

  number_read_holds : (op : LoadOp) (m : Memory) (rest : List Value) (r : Result (ℕ × Event) SegTrap) → Each P rest → EffectHolds P (number_read op m rest r)
  number_read_holds op m rest (Ok x) a = (value_holds P int32 int64 op x.0, a)
  number_read_holds op m rest (Err e) a = tt

  pub segment_holds : (i : Segment) (m : Memory) (vs : List Value) → Each P vs → FreshIn P i m vs → EffectHolds P (segment_on i m vs)
  segment_holds Null m vs a fresh = (null, a)
  segment_holds (New kind) m (I32 n ∷ rest) a fresh = (fresh, a.1)
  segment_holds (Free kind) m (Handle h ∷ rest) a fresh = changed_holds P rest (call.free m h kind) a.1
  segment_holds (Add scale) m (I64 delta ∷ Handle h ∷ rest) a fresh = (fresh, a.1.1)
  segment_holds Slice m (I32 len ∷ I32 from ∷ Handle h ∷ rest) a fresh = (fresh, a.1.1.1)
  segment_holds Eq m (Handle y ∷ Handle x ∷ rest) a fresh = (int32 _, a.1.1)
  segment_holds IsNull m (Handle h ∷ rest) a fresh = (int32 _, a.1)
  segment_holds Diff m (Handle y ∷ Handle x ∷ rest) a fresh = measured_holds m rest (difference x y) a.1.1
  segment_holds LoadHandle m (Handle h ∷ rest) a fresh = read_holds P m rest (call.load_handle m h) fresh a.1
  segment_holds StoreHandle m (Handle v ∷ Handle h ∷ rest) a fresh = changed_holds P rest (call.store_handle m h v) a.1.1
  segment_holds (Load op) m (Handle h ∷ rest) a fresh = number_read_holds op m rest (loaded m h (load_bytes op)) a.1
  segment_holds (Store op) m (v ∷ Handle h ∷ rest) a fresh = stored_holds P m rest h (store_bytes op) (number_of (width_of op) v) a.1.1
  segment_holds Seal m (Handle h ∷ rest) a fresh = (fresh, a.1)
  segment_holds i m vs a fresh = tt
