-- What instructions on handles and segments tell follows in the monitor's state, and the handles that they make are known
-- afterwards.
use Rattle.std.proofs.Common.{◌≡◌, ℕ, ℤ, List, [], ◌∷◌, Option, Some, None, Result, Ok, Err, refl, subst}
use Rattle.ms_num.specs.Integers.{signed}
use Rattle.ms_event.specs.declared.event.Event.{Event}
use Rattle.ms_event.specs.Monitor.{State, after_all}
use Rattle.ms_handle.specs.Handle.{add, difference, seal, slice}
use Rattle.ms_handle.specs.declared.handle.Apart.{Apart}
use Rattle.ms_handle.specs.declared.handle.Handle.{Handle as H}
use Rattle.ms_linear.specs.declared.value.Value.{Value}
use Rattle.ms_linear.specs.declared.value.Value.TheVariants.{I32, I64, Handle}
use Rattle.ms_module.specs.Accesses.{load_bytes, store_bytes}
use Rattle.ms_module.specs.declared.access.LoadOp.{LoadOp}
use Rattle.ms_module.specs.declared.access.Segment.{Segment}
use Rattle.ms_module.specs.declared.access.Segment.TheVariants.{Null, New, Free, Add, Slice, Eq, IsNull, Diff, LoadHandle, StoreHandle, Load, Store, Seal}
use Rattle.ms_operate.specs.Accesses.{number_of, width_of}
use Rattle.ms_segment.specs.Calls as call
use Rattle.ms_segment.specs.Calls.{Change}
use Rattle.ms_segment.specs.Memory.{IsFit, IsSound, Memory, loaded, once_more}
use Rattle.ms_segment.specs.declared.trap.SegTrap.{SegTrap}
use Rattle.ms_machine.specs.refinement.Holding.{Each, Fits}
use Rattle.ms_machine.specs.Running.{with_event}
use Rattle.ms_machine.specs.refinement.Safety.{IsMonitored, Knows, KnowsHandle}
use Rattle.ms_machine.specs.Segments as segments
use Rattle.ms_machine.specs.Segments.{changed, handle_read, measured, number_read, number_stored, seal_event, segment_on, slice_event}
use Rattle.ms_machine.proofs.HeldSegments.{FreshIn, FreshRead}
use Rattle.ms_machine.proofs.SafeAccesses.{load_handle_follows, loaded_follows, store_follows, store_handle_follows}
use Rattle.ms_machine.proofs.SafeEnding.{free_follows}
use Rattle.ms_machine.proofs.SafeHandles.{add_known, seal_follows, slice_follows}
use Rattle.ms_machine.proofs.SafeMaking.{make_follows}
use Rattle.ms_machine.proofs.SafeStates.{Follows, follows-none, handle_grows}
use Rattle.ms_machine.proofs.SafeEvents.{EventIn}

module _ (state : State) (m : Memory) (sound : IsSound m) (monitored : IsMonitored state m) where
  -- ---- what is told

  nothing_follows : Follows state m None m
  nothing_follows = follows-none state m monitored

  changed_follows : (rest : List Value) (r : Result Change SegTrap) → ((c : Change) → r ≡ Ok c → Follows state m (Some c.event) c.memory) → EventIn (Follows state m) (changed rest r)
  changed_follows rest (Ok c) x = x c refl
  changed_follows rest (Err e) x = tt

  measured_follows : (rest : List Value) (r : Result ℤ Apart) → EventIn (Follows state m) (measured m rest r)
  measured_follows rest (Ok n) = nothing_follows
  measured_follows rest (Err e) = tt

  handle_read_follows : (rest : List Value) (r : Result (H × Event) SegTrap) → ((x : H × Event) → r ≡ Ok x → Follows state m (Some x.1) (once_more m)) → EventIn (Follows state m) (handle_read m rest r)
  handle_read_follows rest (Ok x) f = f x refl
  handle_read_follows rest (Err e) f = tt

  number_read_follows : (op : LoadOp) (rest : List Value) (r : Result (ℕ × Event) SegTrap) → ((x : ℕ × Event) → r ≡ Ok x → Follows state m (Some x.1) (once_more m)) → EventIn (Follows state m) (number_read op m rest r)
  number_read_follows op rest (Ok x) f = f x refl
  number_read_follows op rest (Err e) f = tt

  number_stored_follows : (rest : List Value) (h : H) (width : ℕ) (n : Option ℕ) → IsFit m h → KnowsHandle state h → EventIn (Follows state m) (number_stored m rest h width n)
  number_stored_follows rest h width None fit known = tt
  number_stored_follows rest h width (Some n) fit known =
      changed_follows rest (call.store m h width n) (λ c is. store_follows state m monitored h width n c sound fit known is)

  pub segment_follows : (i : Segment) (vs : List Value) → Each (Fits m) vs → Each (Knows state) vs → EventIn (Follows state m) (segment_on i m vs)
  segment_follows Null vs a b = nothing_follows
  segment_follows (New kind) (I32 n ∷ rest) a b = (make_follows state m monitored n kind sound).0
  segment_follows (Free kind) (Handle h ∷ rest) a b = changed_follows rest (call.free m h kind) (λ c is. free_follows state m monitored h kind c is)
  segment_follows (Add scale) (I64 delta ∷ Handle h ∷ rest) a b = nothing_follows
  segment_follows Slice (I32 len ∷ I32 from ∷ Handle h ∷ rest) a b = (slice_follows state m monitored h from len b.1.1.0).0
  segment_follows Eq (Handle y ∷ Handle x ∷ rest) a b = nothing_follows
  segment_follows IsNull (Handle h ∷ rest) a b = nothing_follows
  segment_follows Diff (Handle y ∷ Handle x ∷ rest) a b = measured_follows rest (difference x y)
  segment_follows LoadHandle (Handle h ∷ rest) a b =
      handle_read_follows rest (call.load_handle m h) (λ x is. (load_handle_follows state m monitored h x sound a.0 b.0 is).0)
  segment_follows StoreHandle (Handle v ∷ Handle h ∷ rest) a b =
      changed_follows rest (call.store_handle m h v) (λ c is. store_handle_follows state m monitored h v c sound a.1.0 b.1.0 b.0 is)
  segment_follows (Load op) (Handle h ∷ rest) a b =
      number_read_follows op rest (loaded m h (load_bytes op)) (λ x is. loaded_follows state m monitored h (load_bytes op) x a.0 b.0 is)
  segment_follows (Store op) (v ∷ Handle h ∷ rest) a b =
      number_stored_follows rest h (store_bytes op) (number_of (width_of op) v) a.1.0 b.1.0
  segment_follows Seal (Handle h ∷ rest) a b = (seal_follows state m monitored h b.0).0
  segment_follows i vs a b = tt

  -- ---- the handles that are made

  abbrev KnownAfter : Option Event → Value → Type 0
  KnownAfter event v = Knows (after_all state (with_event event [])) v

  leaves_event : (us vs : List Value) (n m' : Memory) (e event : Option Event) → segments.Gives us n e ≡ segments.Gives vs m' event → e ≡ event
  leaves_event us vs n m' e event is = cc

  read_known : (rest us : List Value) (m' : Memory) (event : Option Event) (h : H) (r : Result (H × Event) SegTrap) → IsFit m h → KnowsHandle state h → call.load_handle m h ≡ r → handle_read m rest r ≡ segments.Gives us m' event → FreshRead (KnownAfter event) r
  read_known rest us m' event h (Ok x) fit known loads is =
      let follows = load_handle_follows state m monitored h x sound fit known loads in
      subst (λ e. KnownAfter e (Handle x.0)) (leaves_event (Handle x.0 ∷ rest) us (once_more m) m' (Some x.1) event is) (handle_grows state (after_all state (with_event (Some x.1) [])) follows.0.grows x.0 follows.1)
  read_known rest us m' event h (Err e) fit known loads is = tt

  pub segment_known : (i : Segment) (vs us : List Value) (m' : Memory) (event : Option Event) → Each (Fits m) vs → Each (Knows state) vs → segment_on i m vs ≡ segments.Gives us m' event → FreshIn (KnownAfter event) i m vs
  segment_known (New kind) (I32 n ∷ rest) us m' event a b is =
      subst (λ e. KnownAfter e (Handle (call.make m n kind).handle)) (leaves_event _ us _ m' (Some (call.make m n kind).event) event is) (make_follows state m monitored n kind sound).1
  segment_known (Add scale) (I64 delta ∷ Handle h ∷ rest) us m' event a b is =
      subst (λ e. KnownAfter e (Handle (add h (signed 64 delta) scale))) (leaves_event _ us _ m' None event is) (add_known state h (signed 64 delta) scale b.1.0)
  segment_known Slice (I32 len ∷ I32 from ∷ Handle h ∷ rest) us m' event a b is =
      subst (λ e. KnownAfter e (Handle (slice h from len))) (leaves_event _ us _ m' (slice_event h (slice h from len)) event is) (slice_follows state m monitored h from len b.1.1.0).1
  segment_known LoadHandle (Handle h ∷ rest) us m' event a b is =
      read_known rest us m' event h (call.load_handle m h) a.0 b.0 refl is
  segment_known Seal (Handle h ∷ rest) us m' event a b is =
      subst (λ e. KnownAfter e (Handle (seal h))) (leaves_event _ us _ m' (seal_event h) event is) (seal_follows state m monitored h b.0).1
  segment_known i vs us m' event a b is = tt
