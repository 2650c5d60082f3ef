-- What instructions on handles and segments make of the operands and of the segment memory: MSWasm's instructions (POPL 2023), in the
-- form of the standard's numeric and memory instructions (WebAssembly 1.0, 4.4.1 and 4.4.4). Of several operands the last one is
-- topmost.
use Rattle.std.specs.Prelude.{ℕ, ◌+◌, Bool, true, false, List, ◌∷◌, Option, Some, None, Result, Ok, Err, ℤ}
use Rattle.ms_num.specs.Integers.{signed, truth, wrapped}
use Rattle.ms_event.specs.declared.event.Event.{Event}
use Rattle.ms_event.specs.declared.event.Event.TheVariants as events
use Rattle.ms_handle.specs.Handle.{add, difference, eq, seal, slice}
use Rattle.ms_handle.specs.declared.handle.Apart.{Apart}
use Rattle.ms_handle.specs.declared.handle.Handle.{Handle}
use Rattle.ms_handle.specs.declared.handle.Handle.TheVariants as handles
use Rattle.ms_linear.specs.declared.value.Value.{Value}
use Rattle.ms_linear.specs.declared.value.Value.TheVariants as values
use Rattle.ms_module.specs.Accesses.{load_bytes, store_bytes}
use Rattle.ms_module.specs.declared.access.LoadOp.{LoadOp}
use Rattle.ms_module.specs.declared.access.Segment.{Segment}
use Rattle.ms_module.specs.declared.access.Segment.TheVariants.{Null, New, Free, Add, Slice, Eq, IsNull, Diff, LoadHandle, StoreHandle, Load, Store, Seal}
use Rattle.ms_operate.specs.Accesses.{number_of, value_of, width_of}
use Rattle.ms_segment.specs.Calls as call
use Rattle.ms_segment.specs.Calls.{Change, Made}
use Rattle.ms_segment.specs.Memory.{Memory, loaded, once_more}
use Rattle.ms_segment.specs.declared.trap.SegTrap.{SegTrap}
use Rattle.ms_segment.specs.declared.trap.SegTrap.TheVariants as seg
use Rattle.ms_host.specs.declared.trap.TrapKind.{TrapKind}
use Rattle.ms_host.specs.declared.trap.TrapKind.TheVariants as traps

pub data Effect : Type 0 where
  -- these operands and this memory are there afterwards, and this has happened
  Gives : List Value → Memory → Option Event → Effect
  -- it stops the program
  Trap : TrapKind → Effect
  -- the operands that it takes aren't there
  Stuck : Effect

abbrev pub trap_of : SegTrap → TrapKind
trap_of seg.Null = traps.Null
trap_of seg.Invalid = traps.Invalid
trap_of seg.Freed = traps.Freed
trap_of seg.Bounds = traps.Bounds
trap_of seg.Misaligned = traps.Misaligned
trap_of seg.Provenance = traps.Provenance
trap_of seg.Whole = traps.Whole
trap_of seg.Kind = traps.Kind
trap_of seg.Readonly = traps.Readonly

abbrev pub made : List Value → Made → Effect
made rest m = Gives (values.Handle m.handle ∷ rest) m.memory (Some m.event)

abbrev pub changed : List Value → Result Change SegTrap → Effect
changed rest (Ok c) = Gives rest c.memory (Some c.event)
changed rest (Err e) = Trap (trap_of e)

-- a slice of a good handle is told
abbrev pub slice_event : Handle → Handle → Option Event
slice_event (handles.Good sealed id base size offset) (handles.Good sealed' id' base' size' offset') = Some (events.Slice sealed id base (base + size) base' (base' + size'))
slice_event h g = None

-- where a good handle wasn't sealed before, its sealing is told
abbrev pub seal_event : Handle → Option Event
seal_event (handles.Good false id base size offset) = Some (events.Seal id base (base + size))
seal_event h = None

abbrev pub sliced : Memory → List Value → Handle → Handle → Effect
sliced m rest h g = Gives (values.Handle g ∷ rest) m (slice_event h g)

abbrev pub is_null : Handle → Bool
is_null handles.Null = true
is_null _ = false

abbrev pub measured : Memory → List Value → Result ℤ Apart → Effect
measured m rest (Ok n) = Gives (values.I64 (wrapped 64 n) ∷ rest) m None
measured m rest (Err e) = Trap traps.Apart

-- a load leaves the memory with one more access
abbrev pub handle_read : Memory → List Value → Result (Handle × Event) SegTrap → Effect
handle_read m rest (Ok x) = Gives (values.Handle x.0 ∷ rest) (once_more m) (Some x.1)
handle_read m rest (Err e) = Trap (trap_of e)

abbrev pub number_read : LoadOp → Memory → List Value → Result (ℕ × Event) SegTrap → Effect
number_read op m rest (Ok x) = Gives (value_of op x.0 ∷ rest) (once_more m) (Some x.1)
number_read op m rest (Err e) = Trap (trap_of e)

abbrev pub number_stored : Memory → List Value → Handle → ℕ → Option ℕ → Effect
number_stored m rest h width (Some n) = changed rest (call.store m h width n)
number_stored m rest h width None = Stuck

abbrev pub segment_on : Segment → Memory → List Value → Effect
segment_on Null m vs = Gives (values.Handle handles.Null ∷ vs) m None
segment_on (New kind) m (values.I32 n ∷ rest) = made rest (call.make m n kind)
segment_on (Free kind) m (values.Handle h ∷ rest) = changed rest (call.free m h kind)
segment_on (Add scale) m (values.I64 delta ∷ values.Handle h ∷ rest) = Gives (values.Handle (add h (signed 64 delta) scale) ∷ rest) m None
segment_on Slice m (values.I32 len ∷ values.I32 from ∷ values.Handle h ∷ rest) = sliced m rest h (slice h from len)
segment_on Eq m (values.Handle b ∷ values.Handle a ∷ rest) = Gives (values.I32 (truth (eq a b)) ∷ rest) m None
segment_on IsNull m (values.Handle h ∷ rest) = Gives (values.I32 (truth (is_null h)) ∷ rest) m None
segment_on Diff m (values.Handle b ∷ values.Handle a ∷ rest) = measured m rest (difference a b)
segment_on LoadHandle m (values.Handle h ∷ rest) = handle_read m rest (call.load_handle m h)
segment_on StoreHandle m (values.Handle v ∷ values.Handle h ∷ rest) = changed rest (call.store_handle m h v)
segment_on (Load op) m (values.Handle h ∷ rest) = number_read op m rest (loaded m h (load_bytes op))
segment_on (Store op) m (v ∷ values.Handle h ∷ rest) = number_stored m rest h (store_bytes op) (number_of (width_of op) v)
segment_on Seal m (values.Handle h ∷ rest) = Gives (values.Handle (seal h) ∷ rest) m (seal_event h)
segment_on i m vs = Stuck
