-- A step counts an access exactly where it tells a read or a write.
use Rattle.std.proofs.Common.{◌≡◌, ℕ, ℤ, Bool, true, false, List, [], ◌∷◌, Option, Some, None, Result, Ok, Err, refl, sym, ap, subst}
use Rattle.ms_event.specs.declared.event.Event.{Event}
use Rattle.ms_handle.specs.Handle.{difference, seal, slice}
use Rattle.ms_handle.specs.declared.handle.Apart.{Apart}
use Rattle.ms_handle.specs.declared.handle.Handle.{Handle as H}
use Rattle.ms_handle.specs.declared.handle.Handle.TheVariants as handles
use Rattle.ms_handle.specs.declared.handle.Kind.{Kind}
use Rattle.ms_linear.specs.declared.value.Value.{Value}
use Rattle.ms_linear.specs.declared.value.Value.TheVariants.{I32, I64, Handle}
use Rattle.ms_module.specs.Accesses.{load_bytes, store_bytes}
use Rattle.ms_module.specs.declared.access.LoadOp.{LoadOp}
use Rattle.ms_module.specs.declared.access.Segment.{Segment}
use Rattle.ms_module.specs.declared.access.Segment.TheVariants.{Null, New, Free, Add, Slice, Eq, IsNull, Diff, LoadHandle, StoreHandle, Load, Store, Seal}
use Rattle.ms_operate.specs.Accesses.{number_of, width_of}
use Rattle.ms_segment.specs.Calls.{ended_at, handle_loaded_at, made_at, stored_at}
use Rattle.ms_segment.specs.Memory.{Access, Memory, access, as_number, freed, handle_access, loaded_at, read_event, writable}
use Rattle.ms_segment.specs.declared.trap.SegTrap.{SegTrap}
use Rattle.ms_tagged.specs.Bytes.{Byte, data_of, number_at, pieces, range}
use Rattle.ms_task.specs.Thread.{Thread}
use Rattle.ms_machine.specs.refinement.Accesses.{counted_all}
use Rattle.ms_machine.specs.Hosting as hosting
use Rattle.ms_machine.specs.Hosting.{host_on, takes}
use Rattle.ms_machine.specs.Moves.{Goes, hosted, move_for, move_on}
use Rattle.ms_machine.specs.Running.{with_event}
use Rattle.ms_machine.specs.Segments.{Gives, changed, handle_read, made, measured, number_read, number_stored, seal_event, segment_on, sliced}
use Rattle.ms_machine.specs.Step.{Calls, Next, Outcome, Stuck, Trap, step_of}
use Rattle.ms_machine.specs.refinement.Stepped.{DoesStep, IsWell, event_of}
use Rattle.ms_machine.specs.Store as stores
use Rattle.ms_machine.specs.declared.stepped.Stepped.{Stepped}
use Rattle.ms_machine.specs.declared.stepped.Stepped.TheVariants as answers
use Rattle.ms_machine.proofs.SafeEvents.{EventIn, step_tells}

-- the count of the second memory is that of the first after the event, if there is one
abbrev pub Counts : Memory → Option Event → Memory → Type 0
Counts m event m' = m'.accesses ≡ counted_all (with_event event []) m.accesses

-- ---- instructions on handles and segments

module _ (m : Memory) (rest : List Value) where
  made_counts : (size : ℕ) (kind : Kind) (o : Option ℕ) → EventIn (Counts m) (made rest (made_at m size kind o))
  made_counts size kind None = refl
  made_counts size kind (Some base) = refl

  ended_counts : (r : Result ℕ SegTrap) → EventIn (Counts m) (changed rest (ended_at m r))
  ended_counts (Ok id) = refl
  ended_counts (Err e) = tt

  stored_counts : (new : List Byte) (width : ℕ) (r : Result Access SegTrap) → EventIn (Counts m) (changed rest (stored_at m new width r))
  stored_counts new width (Ok a) = refl
  stored_counts new width (Err e) = tt

  sliced_counts : (h g : H) → EventIn (Counts m) (sliced m rest h g)
  sliced_counts handles.Null g = refl
  sliced_counts handles.Broken g = refl
  sliced_counts (handles.Good sealed id base size offset) handles.Null = refl
  sliced_counts (handles.Good sealed id base size offset) handles.Broken = refl
  sliced_counts (handles.Good sealed id base size offset) (handles.Good sealed' id' base' size' offset') = refl

  sealed_counts : (h : H) → EventIn (Counts m) (Gives (Handle (seal h) ∷ rest) m (seal_event h))
  sealed_counts handles.Null = refl
  sealed_counts handles.Broken = refl
  sealed_counts (handles.Good true id base size offset) = refl
  sealed_counts (handles.Good false id base size offset) = refl

  measured_counts : (r : Result ℤ Apart) → EventIn (Counts m) (measured m rest r)
  measured_counts (Ok n) = refl
  measured_counts (Err e) = tt

  handle_read_counts : (r : Result Access SegTrap) → EventIn (Counts m) (handle_read m rest (handle_loaded_at m r))
  handle_read_counts (Ok a) = refl
  handle_read_counts (Err e) = tt

  as_number_counts : (op : LoadOp) (a : Access) (width : ℕ) (o : Option ℕ) → EventIn (Counts m) (number_read op m rest (as_number o (read_event a width)))
  as_number_counts op a width (Some n) = refl
  as_number_counts op a width None = tt

  number_read_counts : (op : LoadOp) (width : ℕ) (r : Result Access SegTrap) → EventIn (Counts m) (number_read op m rest (loaded_at m width r))
  number_read_counts op width (Ok a) = as_number_counts op a width (number_at (range a.address width m.bytes))
  number_read_counts op width (Err e) = tt

  number_stored_counts : (h : H) (width : ℕ) (o : Option ℕ) → EventIn (Counts m) (number_stored m rest h width o)
  number_stored_counts h width None = tt
  number_stored_counts h width (Some n) = stored_counts (data_of width n) width (writable (access m h width))

segment_counts : (i : Segment) (m : Memory) (vs : List Value) → EventIn (Counts m) (segment_on i m vs)
segment_counts Null m vs = refl
segment_counts (New kind) m (I32 n ∷ rest) = made_counts m rest n kind _
segment_counts (Free kind) m (Handle h ∷ rest) = ended_counts m rest (freed m h kind)
segment_counts (Add scale) m (I64 delta ∷ Handle h ∷ rest) = refl
segment_counts Slice m (I32 len ∷ I32 from ∷ Handle h ∷ rest) = sliced_counts m rest h (slice h from len)
segment_counts Eq m (Handle y ∷ Handle x ∷ rest) = refl
segment_counts IsNull m (Handle h ∷ rest) = refl
segment_counts Diff m (Handle y ∷ Handle x ∷ rest) = measured_counts m rest (difference x y)
segment_counts LoadHandle m (Handle h ∷ rest) = handle_read_counts m rest (handle_access m h)
segment_counts StoreHandle m (Handle v ∷ Handle h ∷ rest) = stored_counts m rest (pieces v) 16 (writable (handle_access m h))
segment_counts (Load op) m (Handle h ∷ rest) = number_read_counts m rest op (load_bytes op) (access m h (load_bytes op))
segment_counts (Store op) m (v ∷ Handle h ∷ rest) = number_stored_counts m rest h (store_bytes op) (number_of (width_of op) v)
segment_counts Seal m (Handle h ∷ rest) = sealed_counts m rest h
segment_counts i m vs = tt

-- ---- steps

pub step_counts : (s s' : stores.Store) (t t' : Thread) (event : Option Event) → step_of s t ≡ Next s' t' event → Counts s.segments event s'.segments
step_counts s s' t t' event is = step_tells (Counts s.segments) s s' t t' event refl (λ i. segment_counts i s.segments t.operands) is

-- what the host gives leaves the store, and tells nothing
hosted_leaves : (s s' : stores.Store) (u t' : Thread) (takes' took : Bool) (e : hosting.Effect) (put : Option ℕ) (event : Option Event) → hosted s u takes' e ≡ Goes s' t' took put event → (s ≡ s') × (None ≡ event)
hosted_leaves s s' u t' takes' took (hosting.Gives vs byte) put event is = (cc, cc)
hosted_leaves s s' u t' takes' took (hosting.Trap trap) put event is = cc
hosted_leaves s s' u t' takes' took hosting.Stuck put event is = cc

-- the same with the outside
pub move_counts : (s s' : stores.Store) (t t' : Thread) (got : Option ℕ) (took : Bool) (put : Option ℕ) (event : Option Event) → move_for s t got ≡ Goes s' t' took put event → Counts s.segments event s'.segments
move_counts s s' t t' got took put event is = by (step_of s t) refl is where
  by : (o : Outcome) → step_of s t ≡ o → move_on s got o ≡ Goes s' t' took put event → Counts s.segments event s'.segments
  by (Next s1 t1 e) next goes = let next' : step_of s t ≡ Next s' t' event = cc in step_counts s s' t t' event next'
  by (Calls h u) next goes =
      let left = hosted_leaves s s' u t' (takes h) took (host_on h got u.operands) put event goes in
      subst (λ e. Counts s.segments e s'.segments) left.1 (ap (λ (x : stores.Store). x.segments.accesses) (sym left.0))
  by (Trap trap) next goes = cc
  by Stuck next goes = cc

-- what the code answers, where the task may go on
pub does_step_counts : (s s' : stores.Store) (t t' : Thread) (r : Stepped) (left left' held held' : Option (List ℕ)) → DoesStep r (move_for s t) s t s' t' left left' held held' → IsWell r → Counts s.segments (event_of r) s'.segments
does_step_counts s s' t t' (answers.On event) left left' held held' h well = move_counts s s' t t' h.0.got h.0.took h.0.put event h.0.is
does_step_counts s s' t t' (answers.Ended value event) left left' held held' h well = move_counts s s' t t' h.0.got h.0.took h.0.put event h.0.is
does_step_counts s s' t t' (answers.Trap trap) left left' held held' h well = ap (λ (x : stores.Store). x.segments.accesses) h.1
does_step_counts s s' t t' answers.ReadFault left left' held held' h well = absurd well
does_step_counts s s' t t' answers.WriteFault left left' held held' h well = absurd well
does_step_counts s s' t t' answers.Memory left left' held held' h well = absurd well
