-- A step of a thread of one side: the thread stays on the side, and of the store only what is on the side changes.
use Rattle.std.proofs.Common.{◌≡◌, ◌==◌, ℕ, zero, suc, ◌+◌, ◌%◌, ◌/◌, ◌≤◌, Bool, true, false, cond, nat_le, nat_lt, ℤ, pos, negsuc, ◌+ℤ◌, ◌*ℤ◌, List, [], ◌∷◌, length, slice_get, slice_set, Option, Some, None, Result, Ok, Err, refl, sym, ap, ◌∙◌, subst, arith}
use Rattle.std.specs.Ordering.{int_eq}
use Rattle.std.proofs.lemmas.Bool.{leb-true}
use Rattle.ms_event.specs.declared.event.Event.{Event}
use Rattle.ms_handle.specs.Handle.{add, difference, is_near, moved as moved_handle, part, slice, seal}
use Rattle.ms_handle.specs.declared.handle.Apart.{Apart}
use Rattle.ms_handle.specs.declared.handle.Handle.{Handle}
use Rattle.ms_handle.specs.declared.handle.Handle.TheVariants.{Null, Broken, Good}
use Rattle.ms_handle.specs.declared.handle.Kind.{Kind}
use Rattle.ms_host.specs.declared.host.Host.{Host}
use Rattle.ms_host.specs.declared.host.Host.TheVariants as hosts
use Rattle.ms_linear.specs.declared.global.GlobalInst.{GlobalInst}
use Rattle.ms_linear.specs.declared.table.CallTrap.{CallTrap}
use Rattle.ms_linear.specs.declared.table.CallTrap.TheVariants as targets
use Rattle.ms_linear.specs.declared.table.Entry.{Entry}
use Rattle.ms_linear.specs.declared.table.FuncRef.{FuncRef}
use Rattle.ms_linear.specs.Memory.{Memory as LinearMemory}
use Rattle.ms_linear.specs.Table.{Table, same_sig, target_in, target_of}
use Rattle.ms_linear.specs.declared.value.Value.{Value}
use Rattle.ms_linear.specs.declared.value.Value.TheVariants as values
use Rattle.ms_linear.specs.Values.{default_of}
use Rattle.ms_live.specs.declared.gaps.Live.{Live}
use Rattle.ms_num.specs.Integers.{signed}
use Rattle.ms_module.specs.Accesses.{load_bytes, store_bytes}
use Rattle.ms_module.specs.declared.access.LoadOp.{LoadOp}
use Rattle.ms_module.specs.declared.access.Segment.{Segment as SegmentInstr}
use Rattle.ms_module.specs.declared.access.Segment.TheVariants as instrs
use Rattle.ms_module.specs.declared.instr.Instr.{Instr}
use Rattle.ms_module.specs.declared.instr.Instr.TheVariants.{Unreachable, Nop, Block, Loop, If, Br, BrIf, BrTable, Return, Call, CallIndirect, Drop, Select, LocalGet, LocalSet, LocalTee, GlobalGet, GlobalSet, I32Const, I64Const, Numeric, Linear, Segment}
use Rattle.ms_operate.specs.Accesses.{number_of, width_of}
use Rattle.ms_operate.specs.Effects as effects
use Rattle.ms_operate.specs.Memories.{linear_on}
use Rattle.ms_operate.specs.Numbers.{numeric_on}
use Rattle.ms_operate.specs.Outcomes as operate
use Rattle.ms_segment.specs.Calls as call-of
use Rattle.ms_segment.specs.Calls.{Change, are_pieces, are_zeros, handle_at, made_at, place_of, stored_at}
use Rattle.ms_segment.specs.Memory.{Access, IsFit, IsSound, Memory, access, accessed, accessed_if, aligned, ends_if, handle_access, is_whole, live_of, loaded_at, as_number, read_event, same_kind, with_bytes, writable}
use Rattle.ms_segment.specs.declared.trap.SegTrap.{SegTrap}
use Rattle.ms_segment.specs.declared.trap.SegTrap.TheVariants as traps
use Rattle.ms_tagged.specs.Bytes.{Byte, Data, Piece, data_of, number_at, pieces, range}
use Rattle.ms_tagged.proofs.Numbers.{length-data_of}
use Rattle.ms_task.specs.Control as control
use Rattle.ms_task.specs.Control.{Moved, To, TooDeep, block_on, br_if_on, br_table_on, branch, call_on, if_on, loop_on, return_on}
use Rattle.ms_task.specs.declared.func.FuncInst.{FuncInst}
use Rattle.ms_task.specs.Thread.{Frame, Item, thread}
use Rattle.ms_types.specs.declared.types.FuncType.{FuncType}
use Rattle.ms_types.specs.declared.types.ValType.{ValType}
use Rattle.ms_types.specs.declared.types.ValType.TheVariants as types
use Rattle.ms_machine.specs.refinement.Holding.{Each, EachKept, Fits}
use Rattle.ms_machine.specs.Segments as segments
use Rattle.ms_machine.specs.Segments.{Effect, changed, handle_read, made, measured, number_read, number_stored, segment_on, slice_event}
use Rattle.ms_machine.specs.Step.{Calls, Next, Outcome, Stuck, Trap, act, call, call_target, call_through, called, choose, goes, host_in, in_memory, in_segments, linear, moved, on_memory, on_top, pushed, select, set_global, set_global_at, set_local, value_in, worked}
use Rattle.ms_machine.specs.Store.{Store, at, func_address, global_address, instance_of, memory_address, number_of_instance, table_address, type_at, with_globals}
use Rattle.ms_machine.specs.declared.store.Instance.{Instance}
use Rattle.ms_machine.proofs.HeldControl.{MovedHolds, block_holds, br_if_holds, br_table_holds, branch_holds, call_holds, if_holds, return_holds}
use Rattle.ms_machine.proofs.HeldPlain.{OutcomeHolds, linear_outcome_holds, worked_holds}
use Rattle.ms_machine.proofs.HeldSegments.{EffectHolds, FreshIn, FreshRead, segment_holds}
use Rattle.ms_machine.proofs.HeldValues.{OptionHolds, each_get, each_set, holds}
use Rattle.ms_apart.specs.refinement.Apart.{EachByte, FunctionOn, HandleOn, IsOld, IsSided, MemoryStep, Owned, SegmentOn, Separated, Sides, StoreStep, ThreadOn, ValueOn, WorkOn, contents, counted, ended, global, kept, memory, same, segments as in_memory_step, written}
use Rattle.ms_apart.proofs.Bytes.{bytes_range}
use Rattle.ms_segment.proofs.Standing.{live_inside, live_is}
use Rattle.ms_tagged.proofs.Within.{range-within}
use Rattle.ms_apart.proofs.Functions.{MovedFunctions, block_functions, br_if_functions, br_table_functions, branch_functions, call_functions, if_functions, return_functions}
use Rattle.ms_apart.proofs.Segments.{IsNew, seal_old, slice_old}
use Rattle.ms_apart.proofs.Steps.{global_on, memory_on}

-- ---- handles alone

module _ (own : Owned) (side : Bool) where
  abbrev On : Handle → Type 0
  On = HandleOn own side

  either_on : (b : Bool) (g h : Handle) → On g → On h → On (cond b g h)
  either_on true g h x y = x
  either_on false g h x y = y

  moved_on : (h : Handle) (d : ℤ) → On h → On (moved_handle h d)
  moved_on Null d x = tt
  moved_on Broken d x = tt
  moved_on (Good sealed id base size offset) d x = either_on (is_near (offset +ℤ d)) (Good sealed id base size (offset +ℤ d)) Broken x tt

  add_on : (h : Handle) (d : ℤ) (k : ℕ) → On h → On (add h d k)
  add_on h d k x = either_on (int_eq (d *ℤ pos k) (pos 0)) h (moved_handle h (d *ℤ pos k)) x (moved_on h (d *ℤ pos k) x)

  part_on : (sealed : Bool) (id base size : ℕ) (z : ℤ) (len : ℕ) → own id ≡ side → On (part sealed id base size z len)
  part_on sealed id base size (pos start) len x = either_on (nat_le (start + len) size) (Good sealed id (base + start) len (pos 0)) Broken x tt
  part_on sealed id base size (negsuc n) len x = tt

  slice_on : (h : Handle) (from len : ℕ) → On h → On (slice h from len)
  slice_on Null from len x = tt
  slice_on Broken from len x = tt
  slice_on (Good sealed id base size offset) from len x = part_on sealed id base size (offset +ℤ pos from) len x

  seal_on : (h : Handle) → On h → On (seal h)
  seal_on Null x = tt
  seal_on Broken x = tt
  seal_on (Good sealed id base size offset) x = x

  read_on : (xs : List Byte) → EachByte On xs → On (handle_at xs)
  read_on [] x = tt
  read_on (Data n ∷ xs) x = either_on (are_zeros (Data n ∷ xs)) Null Broken tt tt
  read_on (Piece h i ∷ xs) x = either_on (are_pieces h 0 (Piece h i ∷ xs)) h Broken x.0 tt

  data_on : (width value : ℕ) → EachByte On (data_of width value)
  data_on zero value = tt
  data_on (suc width) value = data_on width (value / 256)

  pieces_on : (h : Handle) → On h → EachByte On (pieces h)
  pieces_on h x = (x, (x, (x, (x, (x, (x, (x, (x, (x, (x, (x, (x, (x, (x, (x, (x, tt))))))))))))))))

  -- ---- accesses

  module _ (m : Memory) where
    pub record ReachOn (width : ℕ) (a : Access) : Type 0 where
      pub id : ℕ
      pub segment : Live
      pub place : ℕ
      pub mine : own id ≡ side
      pub live : live_of m id ≡ Some segment
      pub at : a.address ≡ segment.base + place
      pub within : place + width ≤ segment.size

    abbrev AccessOn : ℕ → Result Access SegTrap → Type 0
    AccessOn width (Ok a) = ReachOn width a
    AccessOn width (Err e) = Unit {0}

    access_on : (h : Handle) (width : ℕ) → On h → IsFit m h → AccessOn width (access m h width)
    access_on Null width on fit = tt
    access_on Broken width on fit = tt
    access_on (Good sealed id base size offset) width on fit = by (live_of m id) refl where
      reach : (s : Live) (k : ℕ) → live_of m id ≡ Some s → (b : Bool) → nat_le (k + width) size ≡ b → AccessOn width (cond b (Ok (record { address = s.base + base + k; id = s.id; lo = base; hi = base + size; sealed = sealed })) (Err traps.Bounds))
      reach s k live true e =
          let inside : base + size ≤ s.size = fit.3 s live in
          let room : k + width ≤ size = leb-true (k + width) size e in
          record { id = id; segment = s; place = base + k; mine = on; live = live; at = omega arith; within = omega (arith, inside, room) }
      reach s k live false e = tt

      inside : (s : Live) → live_of m id ≡ Some s → (z : ℤ) → AccessOn width (accessed s sealed base size z width)
      inside s live (pos k) = reach s k live (nat_le (k + width) size) refl
      inside s live (negsuc n) = tt

      by : (o : Option Live) → live_of m id ≡ o → AccessOn width (accessed_if o sealed base size offset width)
      by None live = tt
      by (Some s) live = inside s live offset

    aligned_on : (x : Result Access SegTrap) → AccessOn 16 x → AccessOn 16 (aligned x)
    aligned_on (Err e) y = tt
    aligned_on (Ok a) y = by (a.address % 16 == 0) where
      by : (b : Bool) → AccessOn 16 (cond b (Ok a) (Err traps.Misaligned))
      by true = y
      by false = tt

    handle_access_on : (h : Handle) → On h → IsFit m h → AccessOn 16 (handle_access m h)
    handle_access_on h on fit = aligned_on (access m h 16) (access_on h 16 on fit)

    -- ---- effects

    abbrev EffectOn : Effect → Type 0
    EffectOn (segments.Gives vs n event) = MemoryStep own side m n × IsOld event
    EffectOn (segments.Trap trap) = Unit {0}
    EffectOn segments.Stuck = Unit {0}

    abbrev ChangeOn : Result Change SegTrap → Type 0
    ChangeOn (Ok c) = MemoryStep own side m c.memory × IsOld (Some c.event)
    ChangeOn (Err e) = Unit {0}

    writable_on : (width : ℕ) (x : Result Access SegTrap) → AccessOn width x → AccessOn width (writable x)
    writable_on width (Err e) y = tt
    writable_on width (Ok a) y = by a.sealed where
      by : (b : Bool) → AccessOn width (cond b (Err traps.Readonly) (Ok a))
      by true = tt
      by false = y

    changed_on : (rest : List Value) (c : Result Change SegTrap) → ChangeOn c → EffectOn (changed rest c)
    changed_on rest (Ok c) x = x
    changed_on rest (Err e) x = tt

    stored_on : (new : List Byte) (width : ℕ) (x : Result Access SegTrap) → length new ≡ width → EachByte On new → AccessOn width x → ChangeOn (stored_at m new width x)
    stored_on new width (Err e) is fresh y = tt
    stored_on new width (Ok a) is fresh y =
        (subst (λ n. MemoryStep own side m (with_bytes m n new)) (sym y.at) (written y.id y.place y.segment new y.mine y.live (let within = y.within in omega (arith, within, is)) fresh), tt)

    number_stored_on : (rest : List Value) (h : Handle) (width : ℕ) (o : Option ℕ) → On h → IsFit m h → EffectOn (number_stored m rest h width o)
    number_stored_on rest h width None on fit = tt
    number_stored_on rest h width (Some n) on fit = changed_on rest (call-of.store m h width n) (stored_on (data_of width n) width (writable (access m h width)) (length-data_of width n) (data_on width n) (writable_on width (access m h width) (access_on h width on fit)))

    freed_on : (rest : List Value) (h : Handle) (kind : Kind) → On h → EffectOn (changed rest (call-of.free m h kind))
    freed_on rest Null kind on = tt
    freed_on rest Broken kind on = tt
    freed_on rest (Good sealed id base size offset) kind on = by (live_of m id) refl where
      kinds : (s : Live) → live_of m id ≡ Some s → (b c d : Bool) → EffectOn (changed rest (call-of.ended_at m (cond b (cond c (cond d (Err traps.Readonly) (Ok s.id)) (Err traps.Kind)) (Err traps.Whole))))
      kinds s live true true true = tt
      kinds s live true true false = (ended s.id (ap own (live_is m id s live).1 ∙ on), tt)
      kinds s live true false d = tt
      kinds s live false c d = tt

      by : (o : Option Live) → live_of m id ≡ o → EffectOn (changed rest (call-of.ended_at m (ends_if o sealed base size offset kind)))
      by None live = tt
      by (Some s) live = kinds s live (is_whole base size offset s) (same_kind s.kind kind) sealed

    handle_read_on : (rest : List Value) (x : Result (Handle × Event) SegTrap) → (y : Result Access SegTrap) → x ≡ call-of.handle_loaded_at m y → EffectOn (handle_read m rest x)
    handle_read_on rest x (Ok a) e = subst (λ z. EffectOn (handle_read m rest z)) (sym e) (counted, tt)
    handle_read_on rest x (Err t) e = subst (λ z. EffectOn (handle_read m rest z)) (sym e) tt

    number_read_on : (op : LoadOp) (rest : List Value) (width : ℕ) (x : Result Access SegTrap) → EffectOn (number_read op m rest (loaded_at m width x))
    number_read_on op rest width (Err e) = tt
    number_read_on op rest width (Ok a) = by (number_at (range a.address width m.bytes)) where
      by : (o : Option ℕ) → EffectOn (number_read op m rest (as_number o (read_event a width)))
      by None = tt
      by (Some n) = (counted, tt)

    measured_on : (rest : List Value) (x : Result ℤ Apart) → EffectOn (measured m rest x)
    measured_on rest (Ok n) = (same, tt)
    measured_on rest (Err e) = tt

    pub effect_on : (i : SegmentInstr) (vs : List Value) → (IsNew i → ⊥) → Each (ValueOn own side) vs → Each (Fits m) vs → EffectOn (segment_on i m vs)
    effect_on instrs.Null vs old on fit = (same, tt)
    effect_on (instrs.New kind) vs old on fit = absurd (old tt)
    effect_on (instrs.Free kind) (values.Handle h ∷ rest) old on fit = freed_on rest h kind on.0
    effect_on (instrs.Add scale) (values.I64 delta ∷ values.Handle h ∷ rest) old on fit = (same, tt)
    effect_on instrs.Slice (values.I32 len ∷ values.I32 from ∷ values.Handle h ∷ rest) old on fit = (same, slice_old (λ i. i) h (slice h from len))
    effect_on instrs.Eq (values.Handle b ∷ values.Handle a ∷ rest) old on fit = (same, tt)
    effect_on instrs.IsNull (values.Handle h ∷ rest) old on fit = (same, tt)
    effect_on instrs.Diff (values.Handle b ∷ values.Handle a ∷ rest) old on fit = measured_on rest (difference a b)
    effect_on instrs.LoadHandle (values.Handle h ∷ rest) old on fit = handle_read_on rest (call-of.load_handle m h) (handle_access m h) refl
    effect_on instrs.StoreHandle (values.Handle v ∷ values.Handle h ∷ rest) old on fit = changed_on rest (call-of.store_handle m h v) (stored_on (pieces v) 16 (writable (handle_access m h)) refl (pieces_on v on.0) (writable_on 16 (handle_access m h) (handle_access_on h on.1.0 fit.1.0)))
    effect_on (instrs.Load op) (values.Handle h ∷ rest) old on fit = number_read_on op rest (load_bytes op) (access m h (load_bytes op))
    effect_on (instrs.Store op) (v ∷ values.Handle h ∷ rest) old on fit = number_stored_on rest h (store_bytes op) (number_of (width_of op) v) on.1.0 fit.1.0
    effect_on instrs.Seal (values.Handle h ∷ rest) old on fit = (same, seal_old (λ i. i) h)
    effect_on i vs old on fit = tt

    -- ---- the handles that are made

    loaded_on : (sound : IsSound m) → ((id : ℕ) → SegmentOn own m (own id) (live_of m id)) → (x : Result Access SegTrap) → AccessOn 16 x → FreshRead (ValueOn own side) (call-of.handle_loaded_at m x)
    loaded_on sound held (Err e) y = tt
    loaded_on sound held (Ok a) y =
        let all : EachByte (HandleOn own (own y.id)) (contents m y.segment) = subst (SegmentOn own m (own y.id)) y.live (held y.id) in
        let mine : EachByte On (contents m y.segment) = subst (λ b. EachByte (HandleOn own b) (contents m y.segment)) y.mine all in
        read_on (range a.address 16 m.bytes)
        (subst (EachByte On) (sym (range-within y.segment.base y.place 16 y.segment.size m.bytes y.within (live_inside m y.id y.segment sound.placed y.live)) ∙ ap (λ n. range n 16 m.bytes) (sym y.at)) (bytes_range On y.place 16 (contents m y.segment) mine))

    pub fresh_on : (i : SegmentInstr) (vs : List Value) → (IsNew i → ⊥) → IsSound m → ((id : ℕ) → SegmentOn own m (own id) (live_of m id)) → Each (ValueOn own side) vs → Each (Fits m) vs → FreshIn (ValueOn own side) i m vs
    fresh_on (instrs.New kind) vs old sound held on fit = absurd (old tt)
    fresh_on (instrs.Add scale) (values.I64 delta ∷ values.Handle h ∷ rest) old sound held on fit = add_on h (signed 64 delta) scale on.1.0
    fresh_on instrs.Slice (values.I32 len ∷ values.I32 from ∷ values.Handle h ∷ rest) old sound held on fit = slice_on h from len on.1.1.0
    fresh_on instrs.LoadHandle (values.Handle h ∷ rest) old sound held on fit = loaded_on sound held (handle_access m h) (handle_access_on h on.0 fit.0)
    fresh_on instrs.Seal (values.Handle h ∷ rest) old sound held on fit = seal_on h on.0
    fresh_on i vs old sound held on fit = tt

-- ---- the step

module _ (sides : Sides) (own : Owned) (side : Bool) (s : Store) (sided : IsSided sides s) (separated : Separated sides own s) (sound : IsSound s.segments) where
  abbrev V : Value → Type 0
  V = ValueOn own side

  abbrev F : ℕ → Type 0
  F = FunctionOn sides s.funcs side

  abbrev pub PlainOn : Outcome → Type 0
  PlainOn (Next s1 t event) = StoreStep sides own side s s1 × ThreadOn sides own side s t × IsOld event
  PlainOn (Calls h t) = ThreadOn sides own side s t
  PlainOn (Trap trap) = Unit {0}
  PlainOn Stuck = Unit {0}

  on_side : (fr : Frame) (vs : List Value) (w : List Item) → F fr.function → WorkOn F w → Each V vs → Each V fr.locals → EachKept V w → ThreadOn sides own side s (thread fr vs w)
  on_side fr vs w f g a b c = record { function = f; callers = g; values = holds V fr vs w a b c }

  default_on : (ty : ValType) → V (default_of ty)
  default_on types.I32 = tt
  default_on types.I64 = tt
  default_on types.Handle = tt

  moved_on_side : (m : Moved) → MovedFunctions F m → MovedHolds V m → PlainOn (moved s m)
  moved_on_side (To t) f h = (kept, record { function = f.0; callers = f.1; values = h }, tt)
  moved_on_side TooDeep f h = tt
  moved_on_side control.Stuck f h = tt

  module _ (fr : Frame) (w : List Item) (f : F fr.function) (g : WorkOn F w) (b : Each V fr.locals) (c : EachKept V w) where
    goes_on : (vs us : List Value) → Each V us → PlainOn (goes s (thread fr vs w) us)
    goes_on vs us a = (kept, on_side fr us w f g a b c, tt)

    drop_on : (vs us : List Value) → Each V us → PlainOn (on_top us (λ v rest. goes s (thread fr vs w) rest))
    drop_on vs [] a = tt
    drop_on vs (v ∷ us) a = goes_on vs us a.1

    choose_on : (n : ℕ) (x y : Value) → V x → V y → V (choose n x y)
    choose_on zero x y p q = q
    choose_on (suc n) x y p q = p

    select_on : (vs us : List Value) → Each V us → PlainOn (select s (thread fr vs w) us)
    select_on vs (values.I32 n ∷ y ∷ x ∷ us) a = goes_on vs (choose n x y ∷ us) (choose_on n x y a.1.1.0 a.1.0, a.1.1.1)
    select_on vs _ a = tt

    pushed_on : (vs : List Value) (o : Option Value) → Each V vs → OptionHolds V o → PlainOn (pushed s (thread fr vs w) o)
    pushed_on vs None a x = tt
    pushed_on vs (Some v) a x = goes_on vs (v ∷ vs) (x, a)

    set_local_on : (x : ℕ) (v : Value) (vs us : List Value) → V v → Each V us → PlainOn (set_local s (thread fr vs w) x v us)
    set_local_on x v vs us p a = by (nat_lt x (length fr.locals)) where
      by : (q : Bool) → PlainOn (cond q (Next s (thread (record { function = fr.function; locals = slice_set fr.locals x v }) us w) None) Stuck)
      by true = (kept, record { function = f; callers = g; values = record { operands = a; locals = each_set V fr.locals x v b p; kept = c } }, tt)
      by false = tt

    local_set_on : (x : ℕ) (vs us : List Value) → Each V us → PlainOn (on_top us (λ v rest. set_local s (thread fr vs w) x v rest))
    local_set_on x vs [] a = tt
    local_set_on x vs (v ∷ us) a = set_local_on x v vs us a.0 a.1

    local_tee_on : (x : ℕ) (vs us : List Value) → Each V us → PlainOn (on_top us (λ v rest. set_local s (thread fr vs w) x v (v ∷ rest)))
    local_tee_on x vs [] a = tt
    local_tee_on x vs (v ∷ us) a = set_local_on x v vs (v ∷ us) a.0 a

    global_read : (address : Option ℕ) → ((a : ℕ) → address ≡ Some a → sides.globals a ≡ side) → OptionHolds V (value_in (at s.globals address))
    global_read None mine = tt
    global_read (Some a) mine = by (slice_get s.globals a) refl where
      by : (o : Option GlobalInst) → slice_get s.globals a ≡ o → OptionHolds V (value_in o)
      by None e = tt
      by (Some x) e = subst (λ q. ValueOn own q x.value) (mine a refl) (separated.globals a x e)

    set_global_on : (address : Option ℕ) (v : Value) (vs us : List Value) → ((a : ℕ) → address ≡ Some a → sides.globals a ≡ side) → V v → Each V us → PlainOn (set_global s (thread fr vs w) address v us)
    set_global_on None v vs us mine p a = tt
    set_global_on (Some x) v vs us mine p a = by (slice_get s.globals x) refl where
      by : (o : Option GlobalInst) → slice_get s.globals x ≡ o → PlainOn (set_global_at s (thread fr vs w) x o v us)
      by None e = tt
      by (Some old) e = (global x old v (mine x refl) e p, on_side fr us w f g a b c, tt)

    global_set_on : (address : Option ℕ) (vs us : List Value) → ((a : ℕ) → address ≡ Some a → sides.globals a ≡ side) → Each V us → PlainOn (on_top us (λ v rest. set_global s (thread fr vs w) address v rest))
    global_set_on address vs [] mine a = tt
    global_set_on address vs (v ∷ us) mine a = set_global_on address v vs us mine a.0 a.1

    worked_on : (vs : List Value) (o : operate.Outcome) → OutcomeHolds V (worked (with_globals s []) (thread fr vs w) o) → PlainOn (worked s (thread fr vs w) o)
    worked_on vs (operate.Gives us) x = (kept, record { function = f; callers = g; values = x.1 }, tt)
    worked_on vs (operate.Trap trap) x = tt
    worked_on vs operate.Stuck x = tt

    linear_on_side : (i : Rattle.ms_module.specs.declared.access.Linear.Linear) (address : Option ℕ) (vs : List Value) → ((a : ℕ) → address ≡ Some a → sides.memories a ≡ side) → Each V vs → PlainOn (linear s (thread fr vs w) i address)
    linear_on_side i None vs mine a = tt
    linear_on_side i (Some x) vs mine a = on (slice_get s.memories x) (linear_outcome_holds V (λ n. tt) (λ n. tt) (with_globals s []) i (Some x) fr vs w tt a b c) where
      leaves : (e : effects.Effect) → OutcomeHolds V (in_memory (with_globals s []) (thread fr vs w) x e) → PlainOn (in_memory s (thread fr vs w) x e)
      leaves (effects.Gives us m) h = (memory x m (mine x refl), record { function = f; callers = g; values = h.1 }, tt)
      leaves (effects.Trap trap) h = tt
      leaves effects.Stuck h = tt

      on : (o : Option LinearMemory) → OutcomeHolds V (on_memory (with_globals s []) (thread fr vs w) i x o) → PlainOn (on_memory s (thread fr vs w) i x o)
      on None h = tt
      on (Some m) h = leaves (linear_on i m vs) h

    segment_on_side : (vs : List Value) (e : Effect) → EffectHolds V e → EffectOn own side s.segments e → PlainOn (in_segments s (thread fr vs w) e)
    segment_on_side vs (segments.Gives us m event) h x = (in_memory_step m x.0, on_side fr us w f g h b c, x.1)
    segment_on_side vs (segments.Trap trap) h x = tt
    segment_on_side vs segments.Stuck h x = tt

    called_on : (a : ℕ) (vs : List Value) (h : Option Host) → F a → Each V vs → PlainOn (called s a (thread fr vs w) h)
    called_on a vs None q x = moved_on_side (call_on s.funcs a (thread fr vs w)) (call_functions F s.funcs a fr vs w q f g) (call_holds V default_on s.funcs a fr vs w x b c)
    called_on a vs (Some hosts.Putchar) q x = on_side fr vs w f g x b c
    called_on a vs (Some hosts.Getchar) q x = on_side fr vs w f g x b c
    called_on a vs (Some hosts.Abort) q x = tt

    call_on_side : (address : Option ℕ) (vs : List Value) → ((a : ℕ) → address ≡ Some a → F a) → Each V vs → PlainOn (call s (thread fr vs w) address)
    call_on_side None vs q x = tt
    call_on_side (Some a) vs q x = called_on a vs (host_in (slice_get s.funcs a)) (q a refl) x

    target_on_side : (x : Result FuncRef CallTrap) (vs : List Value) → ((y : FuncRef) → x ≡ Ok y → F y.address) → Each V vs → PlainOn (call_target s (thread fr vs w) x)
    target_on_side (Ok y) vs q a = called_on y.address vs (host_in (slice_get s.funcs y.address)) (q y refl) a
    target_on_side (Err e) vs q a = tt

    through_on : (table : Option Table) (sig : Option FuncType) (vs us : List Value) → ((t : Table) (k : ℕ) (e : Entry) → table ≡ Some t → slice_get t.entries k ≡ Some (Some e) → F e.func.address) → Each V us → PlainOn (call_through s (thread fr vs w) table sig us)
    through_on (Some table) (Some sig) vs (values.I32 i ∷ us) q a = target_on_side (target_of table.entries i sig) us (λ y e. found (slice_get table.entries i) refl y e) a.1 where
      found : (o : Option (Option Entry)) → slice_get table.entries i ≡ o → (y : FuncRef) → target_in sig o ≡ Ok y → F y.address
      found None e y is = absurd cc
      found (Some None) e y is = absurd cc
      found (Some (Some entry)) e y is = by (same_sig entry.sig sig) is where
        by : (q' : Bool) → cond q' (Ok entry.func) (Err targets.Signature) ≡ Ok y → F y.address
        by true is' = subst (λ (z : FuncRef). F z.address) (let h : entry.func ≡ y = cc in h) (q table i entry refl e)
        by false is' = absurd cc
    through_on table sig vs us q a = tt

    func_on : (x a : ℕ) → func_address (instance_of s fr) x ≡ Some a → F a
    func_on x a is h e = by (slice_get s.funcs fr.function) refl is where
      in_instance : (k : FuncInst) → slice_get s.funcs fr.function ≡ Some k → (o : Option Instance) → slice_get s.instances k.instance ≡ o → func_address o x ≡ Some a → sides.instances h.instance ≡ side
      in_instance k e' None i is' = absurd cc
      in_instance k e' (Some i) is'' is' = sided.funcs k.instance x a i h is'' is' e ∙ f k e'

      by : (o : Option FuncInst) → slice_get s.funcs fr.function ≡ o → func_address (at s.instances (number_of_instance o)) x ≡ Some a → sides.instances h.instance ≡ side
      by None e' is' = absurd cc
      by (Some k) e' is' = in_instance k e' (slice_get s.instances k.instance) refl is'

    table_on : (a : ℕ) → table_address (instance_of s fr) ≡ Some a → sides.tables a ≡ side
    table_on a is = by (slice_get s.funcs fr.function) refl is where
      in_instance : (k : FuncInst) → slice_get s.funcs fr.function ≡ Some k → (o : Option Instance) → slice_get s.instances k.instance ≡ o → table_address o ≡ Some a → sides.tables a ≡ side
      in_instance k e' None i is' = absurd cc
      in_instance k e' (Some i) is'' is' = sided.tables k.instance a i is'' is' ∙ f k e'

      by : (o : Option FuncInst) → slice_get s.funcs fr.function ≡ o → table_address (at s.instances (number_of_instance o)) ≡ Some a → sides.tables a ≡ side
      by None e' is' = absurd cc
      by (Some k) e' is' = in_instance k e' (slice_get s.instances k.instance) refl is'

    entry_on : (t : Table) (k : ℕ) (e : Entry) → at s.tables (table_address (instance_of s fr)) ≡ Some t → slice_get t.entries k ≡ Some (Some e) → F e.func.address
    entry_on t k e is has h found = by (table_address (instance_of s fr)) refl is where
      by : (o : Option ℕ) → table_address (instance_of s fr) ≡ o → at s.tables o ≡ Some t → sides.instances h.instance ≡ side
      by None e' is' = absurd cc
      by (Some a) e' is' = sided.entries a k t e h is' has found ∙ table_on a e'

    abbrev Makes : Instr → Type 0
    Makes (Segment i) = IsNew i
    Makes i = ⊥

    pub act_on : (i : Instr) (vs : List Value) → (Makes i → ⊥) → Each V vs → Each (Fits s.segments) vs → PlainOn (act s i (thread fr vs w))
    act_on Unreachable vs old a fit = tt
    act_on Nop vs old a fit = goes_on vs vs a
    act_on (Block ty body) vs old a fit = moved_on_side (block_on s.funcs body ty None (thread fr vs w)) (block_functions F s.funcs body ty None fr vs w f g) (block_holds V s.funcs body ty None fr vs w a b c)
    act_on (Loop ty body) vs old a fit = moved_on_side (loop_on s.funcs ty body (thread fr vs w)) (block_functions F s.funcs body None (Some (Loop ty body)) fr vs w f g) (block_holds V s.funcs body None (Some (Loop ty body)) fr vs w a b c)
    act_on (If ty arm other) vs old a fit = moved_on_side (if_on s.funcs arm other ty (thread fr vs w)) (if_functions F s.funcs arm other ty fr vs w f g) (if_holds V s.funcs arm other ty fr vs w a b c)
    act_on (Br l) vs old a fit = moved_on_side (branch l fr vs w) (branch_functions F l fr vs w f g) (branch_holds V l fr vs w a b c)
    act_on (BrIf l) vs old a fit = moved_on_side (br_if_on l (thread fr vs w)) (br_if_functions F l fr vs w f g) (br_if_holds V l fr vs w a b c)
    act_on (BrTable table) vs old a fit = moved_on_side (br_table_on table.labels table.default (thread fr vs w)) (br_table_functions F table.labels table.default fr vs w f g) (br_table_holds V table.labels table.default fr vs w a b c)
    act_on Return vs old a fit = moved_on_side (return_on vs w) (return_functions F vs w g) (return_holds V vs w a c)
    act_on (Call x) vs old a fit = call_on_side (func_address (instance_of s fr) x) vs (func_on x) a
    act_on (CallIndirect x) vs old a fit = through_on (at s.tables (table_address (instance_of s fr))) (type_at (instance_of s fr) x) vs vs entry_on a
    act_on Drop vs old a fit = drop_on vs vs a
    act_on Select vs old a fit = select_on vs vs a
    act_on (LocalGet x) vs old a fit = pushed_on vs (slice_get fr.locals x) a (each_get V fr.locals x b)
    act_on (LocalSet x) vs old a fit = local_set_on x vs vs a
    act_on (LocalTee x) vs old a fit = local_tee_on x vs vs a
    act_on (GlobalGet x) vs old a fit = pushed_on vs _ a (global_read (global_address (instance_of s fr) x) (global_on sides s sided side fr f x))
    act_on (GlobalSet x) vs old a fit = global_set_on (global_address (instance_of s fr) x) vs vs (global_on sides s sided side fr f x) a
    act_on (I32Const n) vs old a fit = goes_on vs (values.I32 _ ∷ vs) (tt, a)
    act_on (I64Const n) vs old a fit = goes_on vs (values.I64 _ ∷ vs) (tt, a)
    act_on (Numeric i) vs old a fit = worked_on vs (numeric_on i vs) (worked_holds V (λ n. tt) (λ n. tt) (with_globals s []) i fr vs w tt a b c)
    act_on (Linear i) vs old a fit = linear_on_side i (memory_address (instance_of s fr)) vs (memory_on sides s sided side fr f) a
    act_on (Segment i) vs old a fit =
        segment_on_side vs (segment_on i s.segments vs) (segment_holds V (λ n. tt) (λ n. tt) tt i s.segments vs a (fresh_on own side s.segments i vs old sound separated.segments a fit)) (effect_on own side s.segments i vs old a fit)
