-- What instructions on handles and segments leave of the segment memory: it stays sound, handles go on fitting, and the
-- handles that they make fit.
use Rattle.std.proofs.Common.{◌≡◌, ℕ, ◌+◌, ◌≤◌, ℤ, List, [], ◌∷◌, Option, Some, None, Result, Ok, Err, refl, subst, arith}
use Rattle.ms_num.specs.Integers.{signed}
use Rattle.ms_event.specs.declared.event.Event.{Event}
use Rattle.ms_handle.specs.Handle.{add, difference, seal, slice}
use Rattle.ms_handle.specs.declared.handle.Apart.{Apart}
use Rattle.ms_handle.specs.declared.handle.Handle.{Handle as H}
use Rattle.ms_handle.specs.declared.handle.Kind.{Kind}
use Rattle.ms_linear.specs.declared.value.Value.{Value}
use Rattle.ms_linear.specs.declared.value.Value.TheVariants.{I32, I64, Handle}
use Rattle.ms_module.specs.Accesses.{load_bytes, store_bytes}
use Rattle.ms_module.specs.declared.access.LoadOp.{LoadOp}
use Rattle.ms_module.specs.declared.access.Segment.{Segment}
use Rattle.ms_module.specs.declared.access.Segment.TheVariants.{Null, New, Free, Add, Slice, Eq, IsNull, Diff, LoadHandle, StoreHandle, Load, Store, Seal}
use Rattle.ms_operate.specs.Accesses.{number_of, width_of}
use Rattle.ms_segment.proofs.Effects.{add_fits, free_keeps, free_made, free_sound, load_handle_fits, make_fits, make_keeps, make_made, make_sound, seal_fits, slice_fits, store_handle_keeps, store_handle_made, store_handle_sound, store_keeps, store_made, store_sound}
use Rattle.ms_segment.proofs.Fits.{IsFit-once_more}
use Rattle.ms_segment.proofs.Sound.{IsSound-once_more}
use Rattle.ms_segment.specs.Calls as call
use Rattle.ms_segment.specs.Calls.{Change}
use Rattle.ms_segment.specs.Memory.{IsFit, IsSound, Memory, loaded, once_more}
use Rattle.ms_segment.specs.declared.trap.SegTrap.{SegTrap}
use Rattle.ms_machine.specs.refinement.Holding.{Each, Fits}
use Rattle.ms_machine.specs.Segments as segments
use Rattle.ms_machine.specs.Segments.{changed, handle_read, measured, number_read, number_stored, segment_on}
use Rattle.ms_machine.proofs.HeldSegments.{FreshIn, FreshRead}
use Rattle.ms_machine.proofs.HeldWork.{MemoryLeft}

-- ---- a fact about the memory, where it holds after each call

module _ (R : Memory → Type 0) (m : Memory) (same : R m) (reads : R (once_more m)) where
  changed_left : (rest : List Value) (r : Result Change SegTrap) → ((c : Change) → r ≡ Ok c → R c.memory) → MemoryLeft R (changed rest r)
  changed_left rest (Ok c) x = x c refl
  changed_left rest (Err e) x = tt

  measured_left : (rest : List Value) (r : Result ℤ Apart) → MemoryLeft R (measured m rest r)
  measured_left rest (Ok n) = same
  measured_left rest (Err e) = tt

  handle_read_left : (rest : List Value) (r : Result (H × Event) SegTrap) → MemoryLeft R (handle_read m rest r)
  handle_read_left rest (Ok x) = reads
  handle_read_left rest (Err e) = tt

  number_read_left : (op : LoadOp) (rest : List Value) (r : Result (ℕ × Event) SegTrap) → MemoryLeft R (number_read op m rest r)
  number_read_left op rest (Ok x) = reads
  number_read_left op rest (Err e) = tt

  number_stored_left : (rest : List Value) (h : H) (width : ℕ) (n : Option ℕ) → ((value : ℕ) (c : Change) → call.store m h width value ≡ Ok c → R c.memory) → MemoryLeft R (number_stored m rest h width n)
  number_stored_left rest h width None x = tt
  number_stored_left rest h width (Some n) x = changed_left rest (call.store m h width n) (x n)

  -- P is what is known of the operands
  segment_left : (P : Value → Type 0) → ((size : ℕ) (kind : Kind) → R (call.make m size kind).memory) → ((h : H) (kind : Kind) (c : Change) → call.free m h kind ≡ Ok c → R c.memory) → ((h : H) (width value : ℕ) (c : Change) → P (Handle h) → call.store m h width value ≡ Ok c → R c.memory) → ((h v : H) (c : Change) → P (Handle h) → P (Handle v) → call.store_handle m h v ≡ Ok c → R c.memory) → (i : Segment) (vs : List Value) → Each P vs → MemoryLeft R (segment_on i m vs)
  segment_left P makes frees stores puts Null vs a = same
  segment_left P makes frees stores puts (New kind) (I32 n ∷ rest) a = makes n kind
  segment_left P makes frees stores puts (Free kind) (Handle h ∷ rest) a = changed_left rest (call.free m h kind) (frees h kind)
  segment_left P makes frees stores puts (Add scale) (I64 delta ∷ Handle h ∷ rest) a = same
  segment_left P makes frees stores puts Slice (I32 len ∷ I32 from ∷ Handle h ∷ rest) a = same
  segment_left P makes frees stores puts Eq (Handle y ∷ Handle x ∷ rest) a = same
  segment_left P makes frees stores puts IsNull (Handle h ∷ rest) a = same
  segment_left P makes frees stores puts Diff (Handle y ∷ Handle x ∷ rest) a = measured_left rest (difference x y)
  segment_left P makes frees stores puts LoadHandle (Handle h ∷ rest) a = handle_read_left rest (call.load_handle m h)
  segment_left P makes frees stores puts StoreHandle (Handle v ∷ Handle h ∷ rest) a = changed_left rest (call.store_handle m h v) (λ c is. puts h v c a.1.0 a.0 is)
  segment_left P makes frees stores puts (Load op) (Handle h ∷ rest) a = number_read_left op rest (loaded m h (load_bytes op))
  segment_left P makes frees stores puts (Store op) (v ∷ Handle h ∷ rest) a =
      number_stored_left rest h (store_bytes op) (number_of (width_of op) v) (λ value c is. stores h (store_bytes op) value c a.1.0 is)
  segment_left P makes frees stores puts Seal (Handle h ∷ rest) a = same
  segment_left P makes frees stores puts i vs a = tt

-- ---- what the memory keeps

pub segment_sound : (i : Segment) (m : Memory) (vs : List Value) → IsSound m → Each (Fits m) vs → MemoryLeft IsSound (segment_on i m vs)
segment_sound i m vs sound a =
    segment_left IsSound m sound (IsSound-once_more m sound) (Fits m) (λ size kind. make_sound m size kind sound) (λ h kind c is. free_sound m h kind c sound is)
    (λ h width value c fit is. store_sound m h width value c sound fit is)
    (λ h v c fit fits is. store_handle_sound m h v c sound fit fits is)
    i vs a

-- no handle stops fitting, and at most one more identity is made
pub record Grows (m m' : Memory) : Type 0 where
  pub keeps : (h : H) → IsFit m h → IsFit m' h
  pub least : m.made ≤ m'.made
  pub most : m'.made ≤ m.made + 1

grows_same : (m m' : Memory) → ((h : H) → IsFit m h → IsFit m' h) → m'.made ≡ m.made → Grows m m'
grows_same m m' keeps is = record { keeps = keeps; least = omega (arith, is); most = omega (arith, is) }

each_any : (vs : List Value) → Each (λ v. Unit {0}) vs
each_any [] = tt
each_any (v ∷ vs) = (tt, each_any vs)

pub segment_grows : (i : Segment) (m : Memory) (vs : List Value) → MemoryLeft (Grows m) (segment_on i m vs)
segment_grows i m vs =
    segment_left (Grows m) m (grows_same m m (λ h fit. fit) refl) (grows_same m (once_more m) (IsFit-once_more m) refl) (λ v. Unit {0})
    (λ size kind. record { keeps = make_keeps m size kind; least = (make_made m size kind).0; most = (make_made m size kind).1 })
    (λ h kind c is. grows_same m c.memory (λ x. free_keeps m h kind c x is) (free_made m h kind c is))
    (λ h width value c any is. grows_same m c.memory (λ x. store_keeps m h width value c x is) (store_made m h width value c is))
    (λ h v c any other is. grows_same m c.memory (λ x. store_handle_keeps m h v c x is) (store_handle_made m h v c is))
    i vs (each_any vs)

-- ---- the handles that are made

read_fits : (m m' : Memory) (h : H) (r : Result (H × Event) SegTrap) → IsSound m → IsFit m h → ((x : H) → IsFit m x → IsFit m' x) → call.load_handle m h ≡ r → FreshRead (Fits m') r
read_fits m m' h (Ok x) sound fit keeps is = keeps x.0 (load_handle_fits m h x.0 x.1 sound fit is)
read_fits m m' h (Err e) sound fit keeps is = tt

made_fits : (m m' : Memory) (size : ℕ) (kind : Kind) (rest us : List Value) (event : Option Event) → IsSound m → segments.Gives (Handle (call.make m size kind).handle ∷ rest) (call.make m size kind).memory (Some (call.make m size kind).event) ≡ segments.Gives us m' event → IsFit m' (call.make m size kind).handle
made_fits m m' size kind rest us event sound is =
    let left : (call.make m size kind).memory ≡ m' = cc in
    subst (λ (x : Memory). IsFit x (call.make m size kind).handle) left (make_fits m size kind sound)

pub segment_fresh : (i : Segment) (m m' : Memory) (vs us : List Value) (event : Option Event) → IsSound m → Each (Fits m) vs → ((h : H) → IsFit m h → IsFit m' h) → segment_on i m vs ≡ segments.Gives us m' event → FreshIn (Fits m') i m vs
segment_fresh (New kind) m m' (I32 n ∷ rest) us event sound a keeps is = made_fits m m' n kind rest us event sound is
segment_fresh (Add scale) m m' (I64 delta ∷ Handle h ∷ rest) us event sound a keeps is = keeps (add h (signed 64 delta) scale) (add_fits m h (signed 64 delta) scale a.1.0)
segment_fresh Slice m m' (I32 len ∷ I32 from ∷ Handle h ∷ rest) us event sound a keeps is = keeps (slice h from len) (slice_fits m h from len a.1.1.0)
segment_fresh Seal m m' (Handle h ∷ rest) us event sound a keeps is = keeps (seal h) (seal_fits m h a.0)
segment_fresh LoadHandle m m' (Handle h ∷ rest) us event sound a keeps is = read_fits m m' h (call.load_handle m h) sound a.0 keeps refl
segment_fresh i m m' vs us event sound a keeps is = tt
