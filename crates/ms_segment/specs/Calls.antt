-- What each call gives and leaves (MSWasm's rules for segments and handles), as functions: of a sound memory, and handles that fit, the relations of `Memory.antt`
-- hold of these alone.
use Rattle.std.specs.Prelude.{◌≡◌, ◌==◌, ℕ, zero, suc, ◌+◌, Bool, true, false, not, ◌&&◌, ◌||◌, List, [], ◌∷◌, length, Option, Some, None, Result, Ok, Err, if◌then◌else◌, nat_le, nat_lt, pos}
use Rattle.std.specs.List.{list_any}
use Rattle.std.specs.Ordering.{int_eq}
use Rattle.ms_event.specs.declared.event.Event.{Event}
use Rattle.ms_event.specs.declared.event.Event.TheVariants as events
use Rattle.ms_handle.specs.declared.handle.Handle.{Handle}
use Rattle.ms_handle.specs.declared.handle.Handle.TheVariants as handles
use Rattle.ms_handle.specs.declared.handle.Kind.{Kind}
use Rattle.ms_live.specs.declared.gaps.Live.{Live}
use Rattle.ms_live.specs.Overlap.{overlaps}
use Rattle.ms_tagged.specs.Bytes.{Byte, Data, Piece, data_of, pieces, range}
use Rattle.ms_event.specs.Monitor.{most_live}
use Rattle.ms_segment.specs.Memory.{Access, Memory, access, freed, handle_access, read_event, with_bytes, writable, write_event}
use Rattle.ms_segment.specs.Parts.{entered, with_ended}
use Rattle.ms_segment.specs.declared.trap.SegTrap.{SegTrap}

-- ---- the least place: the multiples of 16 are tried in order

abbrev pub is_free : List Live → ℕ → ℕ → ℕ → Bool
is_free live capacity n place = (n == 0) || (nat_le (place + n) capacity && not (list_any (overlaps place n) live))

abbrev pub place_from : List Live → ℕ → ℕ → (steps place : ℕ) → Option ℕ
place_from live capacity n zero place = None
place_from live capacity n (suc steps) place = if is_free live capacity n place then Some place else place_from live capacity n steps (place + 16)

abbrev pub place_of : List Live → ℕ → ℕ → Option ℕ
place_of live capacity n = place_from live capacity n (suc capacity) 0

-- ---- the handle that sixteen bytes are

-- both are sealed, or neither
abbrev pub same_sort : Bool → Bool → Bool
same_sort true true = true
same_sort false false = true
same_sort _ _ = false

abbrev pub same_handle : Handle → Handle → Bool
same_handle handles.Null handles.Null = true
same_handle handles.Broken handles.Broken = true
same_handle (handles.Good sealed id base size offset) (handles.Good sealed' id' base' size' offset') = same_sort sealed sealed' && ((id == id') && ((base == base') && ((size == size') && int_eq offset offset')))
same_handle _ _ = false

-- the pieces of a handle, from this number on
abbrev pub are_pieces : Handle → ℕ → List Byte → Bool
are_pieces h i [] = true
are_pieces h i (Data byte ∷ bytes) = false
are_pieces h i (Piece g j ∷ bytes) = same_handle g h && ((j == i) && are_pieces h (suc i) bytes)

abbrev pub are_zeros : List Byte → Bool
are_zeros [] = true
are_zeros (Data byte ∷ bytes) = (byte == 0) && are_zeros bytes
are_zeros (Piece h i ∷ bytes) = false

abbrev pub handle_at : List Byte → Handle
handle_at [] = handles.Broken
handle_at (Data byte ∷ bytes) = if are_zeros (Data byte ∷ bytes) then handles.Null else handles.Broken
handle_at (Piece h i ∷ bytes) = if are_pieces h 0 (Piece h i ∷ bytes) then h else handles.Broken

-- ---- calls

-- what making a segment gives and leaves
pub record Made : Type 0 where
  pub handle : Handle
  pub event : Event
  pub memory : Memory

abbrev pub made_at : Memory → ℕ → Kind → Option ℕ → Made
made_at m size kind None = record { handle = handles.Null; event = events.Refused size; memory = m }
made_at m size kind (Some base) = record {
  handle = handles.Good false (m.made + 1) 0 size (pos 0);
  event = events.Alloc (m.made + 1) base size;
  memory = entered m base size kind;
}

abbrev pub make : Memory → ℕ → Kind → Made
make m size kind = made_at m size kind (if nat_lt (length m.live) most_live then place_of m.live (length m.bytes) size else None)

-- what another change gives and leaves
pub record Change : Type 0 where
  pub event : Event
  pub memory : Memory

abbrev pub ended_at : Memory → Result ℕ SegTrap → Result Change SegTrap
ended_at m (Ok id) = Ok (record { event = events.Free id; memory = with_ended m id })
ended_at m (Err e) = Err e

abbrev pub free : Memory → Handle → Kind → Result Change SegTrap
free m h kind = ended_at m (freed m h kind)

abbrev pub stored_at : Memory → List Byte → ℕ → Result Access SegTrap → Result Change SegTrap
stored_at m new width (Ok a) = Ok (record { event = write_event a width; memory = with_bytes m a.address new })
stored_at m new width (Err e) = Err e

abbrev pub store : Memory → Handle → ℕ → ℕ → Result Change SegTrap
store m h width value = stored_at m (data_of width value) width (writable (access m h width))

abbrev pub store_handle : Memory → Handle → Handle → Result Change SegTrap
store_handle m h v = stored_at m (pieces v) 16 (writable (handle_access m h))

abbrev pub handle_loaded_at : Memory → Result Access SegTrap → Result (Handle × Event) SegTrap
handle_loaded_at m (Ok a) = Ok (handle_at (range a.address 16 m.bytes), read_event a 16)
handle_loaded_at m (Err e) = Err e

abbrev pub load_handle : Memory → Handle → Result (Handle × Event) SegTrap
load_handle m h = handle_loaded_at m (handle_access m h)

-- The code did so: the event is that one and the memory is so, or it stopped and the memory is as before.
abbrev pub DoesChange : Result Change SegTrap → Memory → Memory → Result Event SegTrap → Type 0
DoesChange change old new (Ok event) = change ≡ Ok (record { event = event; memory = new })
DoesChange change old new (Err e) = (change ≡ Err e) × (new ≡ old)
