-- A step of a thread of the component, on two stores that are alike.
use Rattle.std.proofs.Common.{◌≡◌, ℕ, ◌+◌, Bool, true, false, cond, nat_lt, pos, List, [], ◌∷◌, length, slice_get, Option, Some, None, Result, Ok, Err, refl, sym, ap, ◌∙◌, subst}
use Rattle.ms_event.specs.declared.event.Event.{Event}
use Rattle.ms_event.specs.declared.event.Event.TheVariants as events
use Rattle.ms_event.specs.Monitor.{most_live}
use Rattle.ms_handle.specs.declared.handle.Kind.{Kind}
use Rattle.ms_handle.specs.declared.handle.Handle.TheVariants as handles
use Rattle.ms_host.specs.declared.host.Host.{Host}
use Rattle.ms_host.specs.declared.host.Host.TheVariants as hosts
use Rattle.ms_linear.specs.declared.table.CallTrap.{CallTrap}
use Rattle.ms_linear.specs.declared.table.FuncRef.{FuncRef}
use Rattle.ms_linear.specs.Table.{Table, target_of}
use Rattle.ms_linear.specs.declared.value.Value.{Value}
use Rattle.ms_linear.specs.declared.value.Value.TheVariants as values
use Rattle.ms_live.specs.Place.{IsPlace}
use Rattle.ms_module.specs.declared.access.Segment.TheVariants as segment-instrs
use Rattle.ms_module.specs.declared.instr.Instr.{Instr}
use Rattle.ms_module.specs.declared.instr.Instr.TheVariants.{Unreachable, Nop, Block, Loop, If, Br, BrIf, BrTable, Return, Call, CallIndirect, Drop, Select, LocalGet, LocalSet, LocalTee, GlobalGet, GlobalSet, I32Const, I64Const, Numeric, Linear, Segment}
use Rattle.ms_segment.specs.Calls.{made_at, place_of}
use Rattle.ms_segment.specs.Memory.{IsSound, Memory}
use Rattle.ms_segment.specs.Parts.{entered}
use Rattle.ms_segment.proofs.Places.{IsPlace-place_of}
use Rattle.ms_task.specs.Control.{block_on, br_if_on, br_table_on, branch, call_on, if_on, loop_on, return_on}
use Rattle.ms_task.specs.declared.func.FuncInst.{FuncInst}
use Rattle.ms_task.specs.Thread.{Activation, Do, Frame, Item, Label, Thread, thread}
use Rattle.ms_types.specs.declared.types.FuncType.{FuncType}
use Rattle.ms_machine.specs.refinement.Holding.{Each, EachKept, Fits}
use Rattle.ms_machine.specs.Segments as segments
use Rattle.ms_machine.specs.Segments.{Effect, made, segment_on}
use Rattle.ms_machine.specs.Step.{Calls, Next, Outcome, Stuck, Trap, act, begin, call, call_target, call_through, called, exited, first, host_in, in_segments, step_of}
use Rattle.ms_machine.specs.Store.{Store, at, func_address, global_address, instance_of, memory_address, number_of_instance, table_address, type_at, with_segments}
use Rattle.ms_machine.specs.declared.store.Instance.{Instance}
use Rattle.ms_apart.specs.refinement.Renaming.{Renaming, rename, rename_all, rename_frame, rename_thread, rename_work}
use Rattle.ms_apart.specs.refinement.Apart.{AddressOn, Alike, EventAlike, FunctionOn, IsSided, Owned, Separated, Sides, ThreadOn, ValueOn, owned_after, renamed_after}
use Rattle.ms_apart.specs.refinement.Calm.{WasGranted}
use Rattle.ms_apart.proofs.Control.{block_renamed, br_if_renamed, br_table_renamed, branch_renamed, call_renamed, exited_renamed, if_renamed, return_renamed}
use Rattle.ms_apart.proofs.Lists.{get_mapped}
use Rattle.ms_apart.proofs.Plain.{OutcomeAlike, alike_segments, drop_alike, global_alike, global_set_alike, goes_alike, linear_alike, local_set_alike, local_tee_alike, moved_alike, numeric_alike, pushed_alike, select_alike}
use Rattle.ms_apart.proofs.Segments.{EffectAlike, IsNew, segment_alike}
use Rattle.ms_apart.proofs.Making.{global_agrees, made_alike, name_new, names_agree, values_agree, work_agrees}

-- ---- what a function of the component names

module _ (sides : Sides) (s : Store) (sided : IsSided sides s) (side : Bool) (fr : Frame) (on : FunctionOn sides s.funcs side fr.function) where
  pub global_on : (x a : ℕ) → global_address (instance_of s fr) x ≡ Some a → sides.globals a ≡ side
  global_on x a is = by (slice_get s.funcs fr.function) refl is where
    in_instance : (f : FuncInst) → slice_get s.funcs fr.function ≡ Some f → (o : Option Instance) → slice_get s.instances f.instance ≡ o → global_address o x ≡ Some a → sides.globals a ≡ side
    in_instance f e None e' is = absurd cc
    in_instance f e (Some i) e' is = sided.globals f.instance x a i e' is ∙ on f e

    by : (o : Option FuncInst) → slice_get s.funcs fr.function ≡ o → global_address (at s.instances (number_of_instance o)) x ≡ Some a → sides.globals a ≡ side
    by None e is = absurd cc
    by (Some f) e is = in_instance f e (slice_get s.instances f.instance) refl is

  pub memory_on : (a : ℕ) → memory_address (instance_of s fr) ≡ Some a → sides.memories a ≡ side
  memory_on a is = by (slice_get s.funcs fr.function) refl is where
    in_instance : (f : FuncInst) → slice_get s.funcs fr.function ≡ Some f → (o : Option Instance) → slice_get s.instances f.instance ≡ o → memory_address o ≡ Some a → sides.memories a ≡ side
    in_instance f e None e' is = absurd cc
    in_instance f e (Some i) e' is = sided.memories f.instance a i e' is ∙ on f e

    by : (o : Option FuncInst) → slice_get s.funcs fr.function ≡ o → memory_address (at s.instances (number_of_instance o)) ≡ Some a → sides.memories a ≡ side
    by None e is = absurd cc
    by (Some f) e is = in_instance f e (slice_get s.instances f.instance) refl is

address_on : (side : ℕ → Bool) (o : Option ℕ) → ((a : ℕ) → o ≡ Some a → side a ≡ true) → AddressOn side o
address_on side None x = tt
address_on side (Some a) x = x a refl

-- ---- the step

module _ (sides : Sides) (own : Owned) (r : Renaming) (s s' : Store) (alike : Alike sides own r s s') where
  abbrev Plain : Outcome → Outcome → Type 0
  Plain = OutcomeAlike sides own r s s' alike

  instance_same : (fr : Frame) → instance_of s' (rename_frame r fr) ≡ instance_of s fr
  instance_same fr = ap (λ is. at is (number_of_instance (slice_get s'.funcs fr.function))) alike.instances ∙ ap (λ fs. at s.instances (number_of_instance (slice_get fs fr.function))) alike.funcs

  called_alike : (a : ℕ) (fr : Frame) (vs : List Value) (w : List Item) (h : Option Host) → Plain (called s a (thread fr vs w) h) (called s' a (rename_thread r (thread fr vs w)) h)
  called_alike a fr vs w None = moved_alike sides own r s s' alike (call_on s.funcs a (thread fr vs w)) _ (ap (λ fs. call_on fs a (rename_thread r (thread fr vs w))) alike.funcs ∙ call_renamed r s.funcs a fr vs w)
  called_alike a fr vs w (Some hosts.Putchar) = refl
  called_alike a fr vs w (Some hosts.Getchar) = refl
  called_alike a fr vs w (Some hosts.Abort) = refl

  call_alike : (address : Option ℕ) (fr : Frame) (vs : List Value) (w : List Item) → Plain (call s (thread fr vs w) address) (call s' (rename_thread r (thread fr vs w)) address)
  call_alike None fr vs w = refl
  call_alike (Some a) fr vs w =
      subst (λ fs. Plain (called s a (thread fr vs w) (host_in (slice_get s.funcs a))) (called s' a (rename_thread r (thread fr vs w)) (host_in (slice_get fs a)))) (sym alike.funcs) (called_alike a fr vs w (host_in (slice_get s.funcs a)))

  target_alike : (x : Result FuncRef CallTrap) (fr : Frame) (vs : List Value) (w : List Item) → Plain (call_target s (thread fr vs w) x) (call_target s' (rename_thread r (thread fr vs w)) x)
  target_alike (Ok f) fr vs w = call_alike (Some f.address) fr vs w
  target_alike (Err e) fr vs w = refl

  through_alike : (table : Option Table) (sig : Option FuncType) (fr : Frame) (vs us : List Value) (w : List Item) → Plain (call_through s (thread fr vs w) table sig us) (call_through s' (rename_thread r (thread fr vs w)) table sig (rename_all r us))
  through_alike (Some table) (Some sig) fr vs (values.I32 i ∷ us) w = target_alike (target_of table.entries i sig) fr us w
  through_alike table sig fr vs us w = refl

  module _ (sided : IsSided sides s) (separated : Separated sides own s) (sound : IsSound s.segments) (sound' : IsSound s'.segments) where
    in_segments_alike : (fr : Frame) (vs : List Value) (w : List Item) (e e' : Effect) → EffectAlike own r s.segments s'.segments alike.segments sound sound' e e' → Plain (in_segments s (thread fr vs w) e) (in_segments s' (rename_thread r (thread fr vs w)) e')
    in_segments_alike fr vs w (segments.Gives us m event) e' x = (with_segments s' x.0, x.1, ap (in_segments s' (rename_thread r (thread fr vs w))) x.2, alike_segments sides own r s s' alike m x.0 x.3, x.4, x.5)
    in_segments_alike fr vs w (segments.Trap trap) e' x = ap (in_segments s' (rename_thread r (thread fr vs w))) x
    in_segments_alike fr vs w segments.Stuck e' x = ap (in_segments s' (rename_thread r (thread fr vs w))) x

    abbrev Makes : Instr → Type 0
    Makes (Segment i) = IsNew i
    Makes i = ⊥

    act_alike : (i : Instr) (fr : Frame) (vs : List Value) (w : List Item) → (Makes i → ⊥) → FunctionOn sides s.funcs true fr.function → Each (ValueOn own true) vs → Each (Fits s.segments) vs → Plain (act s i (thread fr vs w)) (act s' i (rename_thread r (thread fr vs w)))
    act_alike Unreachable fr vs w old on mine fit = refl
    act_alike Nop fr vs w old on mine fit = goes_alike sides own r s s' alike fr vs vs w
    act_alike (Block ty body) fr vs w old on mine fit = moved_alike sides own r s s' alike (block_on s.funcs body ty None (thread fr vs w)) _ (ap (λ fs. block_on fs body ty None (rename_thread r (thread fr vs w))) alike.funcs ∙ block_renamed r s.funcs body ty None fr vs w)
    act_alike (Loop ty body) fr vs w old on mine fit = moved_alike sides own r s s' alike (loop_on s.funcs ty body (thread fr vs w)) _ (ap (λ fs. loop_on fs ty body (rename_thread r (thread fr vs w))) alike.funcs ∙ block_renamed r s.funcs body None (Some (Loop ty body)) fr vs w)
    act_alike (If ty arm other) fr vs w old on mine fit = moved_alike sides own r s s' alike (if_on s.funcs arm other ty (thread fr vs w)) _ (ap (λ fs. if_on fs arm other ty (rename_thread r (thread fr vs w))) alike.funcs ∙ if_renamed r s.funcs arm other ty fr vs w)
    act_alike (Br l) fr vs w old on mine fit = moved_alike sides own r s s' alike (branch l fr vs w) _ (branch_renamed r l fr vs w)
    act_alike (BrIf l) fr vs w old on mine fit = moved_alike sides own r s s' alike (br_if_on l (thread fr vs w)) _ (br_if_renamed r l fr vs w)
    act_alike (BrTable table) fr vs w old on mine fit = moved_alike sides own r s s' alike (br_table_on table.labels table.default (thread fr vs w)) _ (br_table_renamed r table.labels table.default fr vs w)
    act_alike Return fr vs w old on mine fit = moved_alike sides own r s s' alike (return_on vs w) _ (return_renamed r vs w)
    act_alike (Call x) fr vs w old on mine fit =
        subst (λ o. Plain (act s (Call x) (thread fr vs w)) (call s' (rename_thread r (thread fr vs w)) (func_address o x))) (sym (instance_same fr)) (call_alike (func_address (instance_of s fr) x) fr vs w)
    act_alike (CallIndirect x) fr vs w old on mine fit =
        subst (λ o. Plain (act s (CallIndirect x) (thread fr vs w)) (call_through s' (rename_thread r (thread fr vs w)) (at s'.tables (table_address o)) (type_at o x) (rename_all r vs))) (sym (instance_same fr))
        (subst (λ ts. Plain (act s (CallIndirect x) (thread fr vs w)) (call_through s' (rename_thread r (thread fr vs w)) (at ts (table_address (instance_of s fr))) (type_at (instance_of s fr) x) (rename_all r vs))) (sym alike.tables)
        (through_alike (at s.tables (table_address (instance_of s fr))) (type_at (instance_of s fr) x) fr vs vs w))
    act_alike Drop fr vs w old on mine fit = drop_alike sides own r s s' alike fr vs vs w
    act_alike Select fr vs w old on mine fit = select_alike sides own r s s' alike fr vs vs w
    act_alike (LocalGet x) fr vs w old on mine fit = pushed_alike sides own r s s' alike fr vs w (slice_get fr.locals x) _ (get_mapped (rename r) fr.locals x)
    act_alike (LocalSet x) fr vs w old on mine fit = local_set_alike sides own r s s' alike x fr vs vs w
    act_alike (LocalTee x) fr vs w old on mine fit = local_tee_alike sides own r s s' alike x fr vs vs w
    act_alike (GlobalGet x) fr vs w old on mine fit =
        let a = global_address (instance_of s fr) x in
        pushed_alike sides own r s s' alike fr vs w _ _ (ap (λ o. Rattle.ms_machine.specs.Step.value_in (at s'.globals (global_address o x))) (instance_same fr) ∙ global_alike sides own r s s' alike a (address_on sides.globals a (global_on sides s sided true fr on x)))
    act_alike (GlobalSet x) fr vs w old on mine fit =
        let a = global_address (instance_of s fr) x in
        subst (λ o. Plain (act s (GlobalSet x) (thread fr vs w)) (Rattle.ms_machine.specs.Step.on_top (rename_all r vs) (λ v rest. Rattle.ms_machine.specs.Step.set_global s' (rename_thread r (thread fr vs w)) (global_address o x) v rest))) (sym (instance_same fr))
        (global_set_alike sides own r s s' alike a fr vs vs w (address_on sides.globals a (global_on sides s sided true fr on x)))
    act_alike (I32Const n) fr vs w old on mine fit = goes_alike sides own r s s' alike fr vs (values.I32 _ ∷ vs) w
    act_alike (I64Const n) fr vs w old on mine fit = goes_alike sides own r s s' alike fr vs (values.I64 _ ∷ vs) w
    act_alike (Numeric i) fr vs w old on mine fit = numeric_alike sides own r s s' alike i fr vs w
    act_alike (Linear i) fr vs w old on mine fit =
        let a = memory_address (instance_of s fr) in
        subst (λ o. Plain (act s (Linear i) (thread fr vs w)) (Rattle.ms_machine.specs.Step.linear s' (rename_thread r (thread fr vs w)) i (memory_address o))) (sym (instance_same fr))
        (linear_alike sides own r s s' alike i a fr vs w (address_on sides.memories a (memory_on sides s sided true fr on)))
    act_alike (Segment i) fr vs w old on mine fit = in_segments_alike fr vs w (segment_on i s.segments vs) (segment_on i s'.segments (rename_all r vs)) (segment_alike own r s.segments s'.segments alike.segments sound sound' separated.segments i vs old mine fit)

    -- ---- with new segments

    abbrev pub StepAlike : Outcome → Outcome → Type 0
    StepAlike (Next s1 t event) o' =
        (s1' : Store) × (event' : Option Event) × (o' ≡ Next s1' (rename_thread (renamed_after event event' r) t) event') × Alike sides (owned_after event own) (renamed_after event event' r) s1 s1' × EventAlike own (renamed_after event event' r) s.segments s'.segments event event'
    StepAlike (Calls h t) o' = o' ≡ Calls h (rename_thread r t)
    StepAlike (Trap trap) o' = o' ≡ Trap trap
    StepAlike Stuck o' = o' ≡ Stuck

    -- it asks for no segment in vain
    abbrev pub Granted : Outcome → Type 0
    Granted (Next s1 t event) = WasGranted event
    Granted o = Unit {0}

    from_plain : (o o' : Outcome) → Plain o o' → StepAlike o o'
    from_plain (Next s1 t None) o' x = (x.0, x.1, x.2, x.3, x.4)
    from_plain (Next s1 t (Some (events.Alloc id addr size))) o' x = absurd x.5
    from_plain (Next s1 t (Some (events.Refused size))) o' x = (x.0, x.1, x.2, x.3, x.4)
    from_plain (Next s1 t (Some (events.Seal id lo hi))) o' x = (x.0, x.1, x.2, x.3, x.4)
    from_plain (Next s1 t (Some (events.Slice sealed id lo hi lo2 hi2))) o' x = (x.0, x.1, x.2, x.3, x.4)
    from_plain (Next s1 t (Some (events.Read sealed id lo hi addr width))) o' x = (x.0, x.1, x.2, x.3, x.4)
    from_plain (Next s1 t (Some (events.Write id lo hi addr width))) o' x = (x.0, x.1, x.2, x.3, x.4)
    from_plain (Next s1 t (Some (events.Free id))) o' x = (x.0, x.1, x.2, x.3, x.4)
    from_plain (Calls h t) o' x = x
    from_plain (Trap trap) o' x = x
    from_plain Stuck o' x = x

    place_is : (m : Memory) (size : ℕ) (b : Bool) (base : ℕ) → cond b (place_of m.live (length m.bytes) size) None ≡ Some base → IsPlace m.live (length m.bytes) size (Some base)
    place_is m size true base e = subst (IsPlace m.live (length m.bytes) size) e (IsPlace-place_of m.live (length m.bytes) size)
    place_is m size false base e = absurd cc

    placed_alike : (fr : Frame) (rest : List Value) (vs : List Value) (w : List Item) (size : ℕ) (kind : Kind) (o o' : Option ℕ)
        → cond (nat_lt (length s.segments.live) most_live) (place_of s.segments.live (length s.segments.bytes) size) None ≡ o
        → cond (nat_lt (length s'.segments.live) most_live) (place_of s'.segments.live (length s'.segments.bytes) size) None ≡ o'
        → Each (ValueOn own true) rest → Each (ValueOn own true) fr.locals → EachKept (ValueOn own true) w
        → Granted (in_segments s (thread fr vs w) (made rest (made_at s.segments size kind o)))
        → Granted (in_segments s' (rename_thread r (thread fr vs w)) (made (rename_all r rest) (made_at s'.segments size kind o')))
        → StepAlike (in_segments s (thread fr vs w) (made rest (made_at s.segments size kind o))) (in_segments s' (rename_thread r (thread fr vs w)) (made (rename_all r rest) (made_at s'.segments size kind o')))
    placed_alike fr rest vs w size kind None o' e e' a b c granted granted' = absurd granted
    placed_alike fr rest vs w size kind (Some base) None e e' a b c granted granted' = absurd granted'
    placed_alike fr rest vs w size kind (Some base) (Some base') e e' a b c granted granted' =
        let at1 = place_is s.segments size (nat_lt (length s.segments.live) most_live) base e in
        let at2 = place_is s'.segments size (nat_lt (length s'.segments.live) most_live) base' e' in
        let new : Option Event = Some (events.Alloc (s.segments.made + 1) base size) in
        let new' : Option Event = Some (events.Alloc (s'.segments.made + 1) base' size) in
        let r1 : Renaming = renamed_after new new' r in
        let agree = names_agree own r s.segments s'.segments alike.segments sound sound' separated.segments size base base' kind at1 at2 in
        let named = name_new own r s.segments s'.segments alike.segments sound sound' separated.segments size base base' kind at1 at2 in
        let next : Store = with_segments s' (entered s'.segments base' size kind) in (
          next,
          new',
          ap (λ i. Next next (thread (rename_frame r fr) (values.Handle (handles.Good false i 0 size (pos 0)) ∷ rename_all r rest) (rename_work r w)) new') (sym named)
              ∙ (ap (λ ls. Next next (thread (record { function = fr.function; locals = ls }) (values.Handle (handles.Good false (r1 (s.segments.made + 1)) 0 size (pos 0)) ∷ rename_all r rest) (rename_work r w)) new') (sym (values_agree own r r1 agree fr.locals b))
              ∙ (ap (λ us. Next next (thread (rename_frame r1 fr) (values.Handle (handles.Good false (r1 (s.segments.made + 1)) 0 size (pos 0)) ∷ us) (rename_work r w)) new') (sym (values_agree own r r1 agree rest a))
              ∙ ap (λ u. Next next (thread (rename_frame r1 fr) (values.Handle (handles.Good false (r1 (s.segments.made + 1)) 0 size (pos 0)) ∷ rename_all r1 rest) u) new') (sym (work_agrees own r r1 agree w c)))),
          record {
            funcs = alike.funcs;
            instances = alike.instances;
            tables = alike.tables;
            memories = alike.memories;
            globals = λ x mine. alike.globals x mine ∙ sym (global_agrees own r r1 agree (slice_get s.globals x) (λ g is. subst (λ side. ValueOn own side g.value) mine (separated.globals x g is)));
            segments = made_alike own r s.segments s'.segments alike.segments sound sound' separated.segments size base base' kind at1 at2;
          },
          (ap (λ i. Some (events.Alloc i 0 size)) (sym named), tt),
        )

    new_alike : (kind : Kind) (fr : Frame) (vs us : List Value) (w : List Item) → Each (ValueOn own true) us → Each (ValueOn own true) fr.locals → EachKept (ValueOn own true) w
        → Granted (in_segments s (thread fr vs w) (segment_on (segment-instrs.New kind) s.segments us))
        → Granted (in_segments s' (rename_thread r (thread fr vs w)) (segment_on (segment-instrs.New kind) s'.segments (rename_all r us)))
        → StepAlike (in_segments s (thread fr vs w) (segment_on (segment-instrs.New kind) s.segments us)) (in_segments s' (rename_thread r (thread fr vs w)) (segment_on (segment-instrs.New kind) s'.segments (rename_all r us)))
    new_alike kind fr vs (values.I32 n ∷ rest) w a b c granted granted' = placed_alike fr rest vs w n kind _ _ refl refl a.1 b c granted granted'
    new_alike kind fr vs us w a b c granted granted' = refl

    instr_alike : (i : Instr) (fr : Frame) (vs : List Value) (w : List Item) → FunctionOn sides s.funcs true fr.function → Each (ValueOn own true) vs → Each (ValueOn own true) fr.locals → EachKept (ValueOn own true) w → Each (Fits s.segments) vs
        → Granted (act s i (thread fr vs w)) → Granted (act s' i (rename_thread r (thread fr vs w))) → StepAlike (act s i (thread fr vs w)) (act s' i (rename_thread r (thread fr vs w)))
    instr_alike (Segment (segment-instrs.New kind)) fr vs w on a b c fit granted granted' = new_alike kind fr vs vs w a b c granted granted'
    instr_alike i fr vs w on a b c fit granted granted' = from_plain (act s i (thread fr vs w)) (act s' i (rename_thread r (thread fr vs w))) (act_alike i fr vs w (λ makes. makes) on a fit)

    exited_alike : (o o' : Outcome) → StepAlike o o' → StepAlike (exited o) (exited o')
    exited_alike (Next s1 t event) o' x = (x.0, x.1, ap exited x.2 ∙ ap (λ u. Next x.0 u x.1) (exited_renamed (renamed_after event x.1 r) t), x.3, x.4)
    exited_alike (Calls h t) o' x = ap exited x
    exited_alike (Trap trap) o' x = ap exited x
    exited_alike Stuck o' x = ap exited x

    granted_before : (o : Outcome) → Granted (exited o) → Granted o
    granted_before (Next s1 t event) g = g
    granted_before (Calls h t) g = tt
    granted_before (Trap trap) g = tt
    granted_before Stuck g = tt

    first_alike : (fr : Frame) (vs : List Value) (w : List Item) → FunctionOn sides s.funcs true fr.function → Each (ValueOn own true) vs → Each (ValueOn own true) fr.locals → EachKept (ValueOn own true) w → Each (Fits s.segments) vs
        → Granted (first s fr vs w) → Granted (first s' (rename_frame r fr) (rename_all r vs) (rename_work r w)) → StepAlike (first s fr vs w) (first s' (rename_frame r fr) (rename_all r vs) (rename_work r w))
    first_alike fr vs [] on a b c fit granted granted' = refl
    first_alike fr vs (Do i ∷ w) on a b c fit granted granted' = instr_alike i fr vs w on a b c fit granted granted'
    first_alike fr vs (Label k h g ∷ w) on a b c fit granted granted' = refl
    first_alike fr vs (Activation k h caller ∷ w) on a b c fit granted granted' = refl

    -- a step of a thread of the component is the same step on both
    pub step_alike : (t : Thread) → ThreadOn sides own true s t → Each (Fits s.segments) t.operands → Granted (step_of s t) → Granted (step_of s' (rename_thread r t)) → StepAlike (step_of s t) (step_of s' (rename_thread r t))
    step_alike t on fit granted granted' =
        exited_alike (begin s t) (begin s' (rename_thread r t))
        (first_alike t.frame t.operands t.work on.function on.values.operands on.values.locals on.values.kept fit (granted_before (begin s t) granted) (granted_before (begin s' (rename_thread r t)) granted'))
