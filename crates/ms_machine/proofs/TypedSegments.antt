-- Instructions on handles and segments leave what their arrows say.
use Rattle.std.proofs.Common.{◌≡◌, ℕ, List, ◌∷◌, ◌++◌, reverse, Option, Some, Result, Ok, Err, sym, ap, ap₂, ◌∙◌, subst, ℤ}
use Rattle.ms_event.specs.declared.event.Event.{Event}
use Rattle.ms_handle.specs.Handle.{difference}
use Rattle.ms_handle.specs.declared.handle.Apart.{Apart}
use Rattle.ms_handle.specs.declared.handle.Handle.{Handle as H}
use Rattle.ms_linear.specs.declared.value.Value.{Value}
use Rattle.ms_linear.specs.declared.value.Value.TheVariants as values
use Rattle.ms_module.specs.Accesses.{load_bytes, store_bytes}
use Rattle.ms_module.specs.declared.access.LoadOp.{LoadOp}
use Rattle.ms_module.specs.declared.access.Segment.{Segment}
use Rattle.ms_module.specs.declared.access.Segment.TheVariants.{Null, New, Free, Add, Slice, Eq, IsNull, Diff, LoadHandle, StoreHandle, Load, Store, Seal}
use Rattle.ms_operate.specs.Accesses.{number_of, width_of}
use Rattle.ms_rules.specs.Instructions.{loaded as loaded_type, segment_type}
use Rattle.ms_rules.specs.Typing.{types}
use Rattle.ms_segment.specs.Calls as call
use Rattle.ms_segment.specs.Calls.{Change}
use Rattle.ms_segment.specs.Memory.{Memory, loaded}
use Rattle.ms_segment.specs.declared.trap.SegTrap.{SegTrap}
use Rattle.ms_types.specs.declared.types.ValType.{ValType}
use Rattle.ms_types.specs.declared.types.ValType.TheVariants.{I32, I64, Handle}
use Rattle.ms_machine.specs.Segments as segments
use Rattle.ms_machine.specs.Segments.{Effect, changed, handle_read, measured, number_read, number_stored, segment_on}
use Rattle.ms_machine.specs.Typing.{types_of}
use Rattle.ms_machine.proofs.TypedNumbers.{loaded_typed, number_top, stored_typed}
use Rattle.ms_machine.proofs.TypedValues.{handle_top, i32_top, i64_top}

-- the operands that are left have these types
abbrev pub EffectTyped : List ValType → Effect → Type 0
EffectTyped ts (segments.Gives vs m event) = types_of vs ≡ ts
EffectTyped ts (segments.Trap trap) = Unit {0}
EffectTyped ts segments.Stuck = ⊥

changed_typed : (rest : List Value) (r : List ValType) (c : Result Change SegTrap) → types_of rest ≡ r → EffectTyped r (changed rest c)
changed_typed rest r (Ok c) e = e
changed_typed rest r (Err x) e = tt

measured_typed : (m : Memory) (rest : List Value) (r : List ValType) (n : Result ℤ Apart) → types_of rest ≡ r → EffectTyped (I64 ∷ r) (measured m rest n)
measured_typed m rest r (Ok n) e = ap (λ l. I64 ∷ l) e
measured_typed m rest r (Err x) e = tt

handle_read_typed : (m : Memory) (rest : List Value) (r : List ValType) (x : Result (H × Event) SegTrap) → types_of rest ≡ r → EffectTyped (Handle ∷ r) (handle_read m rest x)
handle_read_typed m rest r (Ok x) e = ap (λ l. Handle ∷ l) e
handle_read_typed m rest r (Err x) e = tt

number_read_typed : (op : LoadOp) (m : Memory) (rest : List Value) (r : List ValType) (x : Result (ℕ × Event) SegTrap) → types_of rest ≡ r → EffectTyped (loaded_type op ∷ r) (number_read op m rest x)
number_read_typed op m rest r (Ok x) e = ap₂ (λ t l. t ∷ l) (loaded_typed op x.0) e
number_read_typed op m rest r (Err x) e = tt

number_stored_typed : (m : Memory) (rest : List Value) (r : List ValType) (h : H) (width : ℕ) (o : Option ℕ) (n : ℕ) → o ≡ Some n → types_of rest ≡ r → EffectTyped r (number_stored m rest h width o)
number_stored_typed m rest r h width o n is e =
    subst (λ x. EffectTyped r (number_stored m rest h width x)) (sym is) (changed_typed rest r (call.store m h width n) e)

-- two handles on top, the second topmost
handles_top : (vs : List Value) (r : List ValType) → types_of vs ≡ Handle ∷ Handle ∷ r → (b a : H) × (rest : List Value) × (vs ≡ values.Handle b ∷ values.Handle a ∷ rest) × (types_of rest ≡ r)
handles_top vs r e =
    let b = handle_top vs (Handle ∷ r) e in
    let a = handle_top b.1 r b.3 in
    (b.0, a.0, a.1, b.2 ∙ ap (λ l. values.Handle b.0 ∷ l) a.2, a.3)

pub segment_typed : (i : Segment) (m : Memory) (vs : List Value) (r : List ValType) → types_of vs ≡ reverse (segment_type i).params ++ r → EffectTyped (types (segment_type i).result ++ r) (segment_on i m vs)
segment_typed Null m vs r e = ap (λ l. Handle ∷ l) e
segment_typed (New kind) m vs r e =
    let n = i32_top vs r e in
    subst (λ l. EffectTyped (Handle ∷ r) (segment_on (New kind) m l)) (sym n.2) (ap (λ l. Handle ∷ l) n.3)
segment_typed (Free kind) m vs r e =
    let h = handle_top vs r e in
    subst (λ l. EffectTyped r (segment_on (Free kind) m l)) (sym h.2) (changed_typed h.1 r (call.free m h.0 kind) h.3)
segment_typed (Add scale) m vs r e =
    let delta = i64_top vs (Handle ∷ r) e in
    let h = handle_top delta.1 r delta.3 in
    subst (λ l. EffectTyped (Handle ∷ r) (segment_on (Add scale) m l)) (sym (delta.2 ∙ ap (λ l. values.I64 delta.0 ∷ l) h.2)) (ap (λ l. Handle ∷ l) h.3)
segment_typed Slice m vs r e =
    let len = i32_top vs (I32 ∷ Handle ∷ r) e in
    let from = i32_top len.1 (Handle ∷ r) len.3 in
    let h = handle_top from.1 r from.3 in
    let whole : vs ≡ values.I32 len.0 ∷ values.I32 from.0 ∷ values.Handle h.0 ∷ h.1 = len.2 ∙ ap (λ l. values.I32 len.0 ∷ l) (from.2 ∙ ap (λ l. values.I32 from.0 ∷ l) h.2) in
    subst (λ l. EffectTyped (Handle ∷ r) (segment_on Slice m l)) (sym whole) (ap (λ l. Handle ∷ l) h.3)
segment_typed Eq m vs r e =
    let h = handles_top vs r e in
    subst (λ l. EffectTyped (I32 ∷ r) (segment_on Eq m l)) (sym h.3) (ap (λ l. I32 ∷ l) h.4)
segment_typed IsNull m vs r e =
    let h = handle_top vs r e in
    subst (λ l. EffectTyped (I32 ∷ r) (segment_on IsNull m l)) (sym h.2) (ap (λ l. I32 ∷ l) h.3)
segment_typed Diff m vs r e =
    let h = handles_top vs r e in
    subst (λ l. EffectTyped (I64 ∷ r) (segment_on Diff m l)) (sym h.3) (measured_typed m h.2 r (difference h.1 h.0) h.4)
segment_typed LoadHandle m vs r e =
    let h = handle_top vs r e in
    subst (λ l. EffectTyped (Handle ∷ r) (segment_on LoadHandle m l)) (sym h.2) (handle_read_typed m h.1 r (call.load_handle m h.0) h.3)
segment_typed StoreHandle m vs r e =
    let h = handles_top vs r e in
    subst (λ l. EffectTyped r (segment_on StoreHandle m l)) (sym h.3) (changed_typed h.2 r (call.store_handle m h.1 h.0) h.4)
segment_typed (Load op) m vs r e =
    let h = handle_top vs r e in
    subst (λ l. EffectTyped (loaded_type op ∷ r) (segment_on (Load op) m l)) (sym h.2) (number_read_typed op m h.1 r (loaded m h.0 (load_bytes op)) h.3)
segment_typed (Store op) m vs r e =
    let x = number_top (width_of op) vs (Handle ∷ r) (e ∙ ap (λ t. t ∷ Handle ∷ r) (stored_typed op)) in
    let h = handle_top x.2 r x.5 in
    subst (λ l. EffectTyped r (segment_on (Store op) m l)) (sym (x.3 ∙ ap (λ l. x.0 ∷ l) h.2))
    (number_stored_typed m h.1 r h.0 (store_bytes op) (number_of (width_of op) x.0) x.1 x.4 h.3)
segment_typed Seal m vs r e =
    let h = handle_top vs r e in
    subst (λ l. EffectTyped (Handle ∷ r) (segment_on Seal m l)) (sym h.2) (ap (λ l. Handle ∷ l) h.3)
