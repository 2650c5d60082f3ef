-- The segment memory, on plain lists: after the rules of MSWasm (POPL 2023) for allocating and freeing segments and for loads and
-- stores through handles, with its tags, which tell bytes of data from those of handles.
use Rattle.std.specs.Prelude.{◌≡◌, ◌==◌, ℕ, ◌+◌, ◌%◌, ◌<◌, ◌≤◌, Bool, true, false, ◌&&◌, List, [], ◌∷◌, ◌++◌, length, replicate, All, AllPairs, Contains, find, min, Option, Some, None, Result, Ok, Err, if◌then◌else◌, nat_le, ℤ, pos, negsuc, ⊤}
use Rattle.std.specs.Ordering.{int_eq}
use Rattle.ms_event.specs.declared.event.Event.{Event}
use Rattle.ms_event.specs.declared.event.Event.TheVariants as events
use Rattle.ms_event.specs.Monitor.{most_live}
use Rattle.ms_handle.specs.declared.handle.Handle.{Handle}
use Rattle.ms_handle.specs.declared.handle.Handle.TheVariants as handles
use Rattle.ms_handle.specs.declared.handle.Kind.{Kind}
use Rattle.ms_handle.specs.declared.handle.Kind.TheVariants as kinds
use Rattle.ms_handle.specs.Handle.{HasBounds}
use Rattle.ms_live.specs.declared.gaps.Live.{Live}
use Rattle.ms_live.specs.Place.{IsPlace, without}
use Rattle.ms_tagged.specs.Bytes.{Byte, Data, IsHandleAt, Piece, number_at, overwritten, range}
use Rattle.ms_segment.specs.declared.trap.SegTrap.{SegTrap}
use Rattle.ms_segment.specs.declared.trap.SegTrap.TheVariants as traps

-- the bytes, as many as the capacity; the live segments, by their identities; how many identities were made; and how
-- often bytes were read or written through handles
pub record Memory : Type 0 where
  pub bytes : List Byte
  pub live : List Live
  pub made : ℕ
  pub accesses : ℕ

abbrev pub live_of : Memory → ℕ → Option Live
live_of m id = find (λ s. s.id == id) m.live

-- ---- the handles that may be given to it

-- the identity was made, the offset is near, and the bound lies within the segment where that is live
abbrev pub IsFit : Memory → Handle → Type 0
IsFit m handles.Null = ⊤
IsFit m handles.Broken = ⊤
IsFit m (handles.Good sealed id base size offset) = (1 ≤ id) × (id ≤ m.made) × HasBounds (handles.Good sealed id base size offset) × ((s : Live) → live_of m id ≡ Some s → base + size ≤ s.size)

-- ---- what always holds of it

abbrev pub IsWithin : ℕ → Live → Type 0
IsWithin capacity s = (s.base + s.size ≤ capacity) × (s.base % 16 ≡ 0)

-- no address lies in both
abbrev pub AreApart : Live → Live → Type 0
AreApart s t = (address : ℕ) → s.base ≤ address → address < s.base + s.size → t.base ≤ address → address < t.base + t.size → ⊥

-- the live segments lie within the capacity at multiples of 16, share no address, and have identities that were made
pub record Placed (m : Memory) : Type 0 where
  pub within : All (IsWithin (length m.bytes)) m.live
  pub apart : AllPairs AreApart m.live
  pub ids : All (λ (s : Live). (1 ≤ s.id) × (s.id ≤ m.made)) m.live

pub record IsSound (m : Memory) : Type 0 where
  pub capacity : length m.bytes < 4294967296
  pub few : length m.live ≤ most_live
  pub placed : Placed m
  -- identities rise
  pub rising : AllPairs (λ (s t : Live). s.id < t.id) m.live
  pub kept : (handle : Handle) (i : ℕ) → Contains m.bytes (Piece handle i) → IsFit m handle

-- ---- making and freeing

-- a segment of this size and kind is made: at the least place, with bytes 0 and the next identity; or there is no room
pub data Makes (m : Memory) (size : ℕ) (kind : Kind) : Handle → Event → Memory → Type 0 where
  made : {base : ℕ} → length m.live < most_live → IsPlace m.live (length m.bytes) size (Some base)
      → Makes m size kind (handles.Good false (m.made + 1) 0 size (pos 0)) (events.Alloc (m.made + 1) base size) (record {
        bytes = overwritten base (replicate size (Data 0)) m.bytes;
        live = m.live ++ record { id = m.made + 1; base = base; size = size; kind = kind } ∷ [];
        made = m.made + 1;
        accesses = m.accesses;
      })
  full : length m.live ≡ most_live → Makes m size kind handles.Null (events.Refused size) m
  no_room : IsPlace m.live (length m.bytes) size None → Makes m size kind handles.Null (events.Refused size) m

abbrev pub same_kind : Kind → Kind → Bool
same_kind kinds.Heap kinds.Heap = true
same_kind kinds.Frame kinds.Frame = true
same_kind _ _ = false

-- the handle is one to the beginning of the whole segment
abbrev pub is_whole : ℕ → ℕ → ℤ → Live → Bool
is_whole base size offset s = (base == 0) && int_eq offset (pos 0) && (size == s.size)

-- what freeing a live segment gives, by a handle that may be sealed
abbrev pub ends : Live → Bool → ℕ → ℕ → ℤ → Kind → Result ℕ SegTrap
ends s sealed base size offset kind =
    if is_whole base size offset s then (if same_kind s.kind kind then (if sealed then Err traps.Readonly else Ok s.id) else Err traps.Kind) else Err traps.Whole

abbrev pub ends_if : Option Live → Bool → ℕ → ℕ → ℤ → Kind → Result ℕ SegTrap
ends_if None sealed base size offset kind = Err traps.Freed
ends_if (Some s) sealed base size offset kind = ends s sealed base size offset kind

-- the identity that ends, or the first check that fails
abbrev pub freed : Memory → Handle → Kind → Result ℕ SegTrap
freed m handles.Null kind = Err traps.Null
freed m handles.Broken kind = Err traps.Invalid
freed m (handles.Good sealed id base size offset) kind = ends_if (live_of m id) sealed base size offset kind

-- ---- accesses

-- a count that rises, which stands still at the last value of a u64
abbrev pub risen : ℕ → ℕ
risen n = min (n + 1) 18446744073709551615

-- one more access is counted, and nothing else changes
abbrev pub once_more : Memory → Memory
once_more m = record { bytes = m.bytes; live = m.live; made = m.made; accesses = risen m.accesses }

-- where an access goes: its address, its shade, and whether the handle that it goes through is sealed
pub record Access : Type 0 where
  pub address : ℕ
  pub id : ℕ
  pub lo : ℕ
  pub hi : ℕ
  pub sealed : Bool

abbrev pub accessed : Live → Bool → ℕ → ℕ → ℤ → ℕ → Result Access SegTrap
accessed s sealed base size (pos offset) width =
    if nat_le (offset + width) size then Ok (record { address = s.base + base + offset; id = s.id; lo = base; hi = base + size; sealed = sealed }) else Err traps.Bounds
accessed s sealed base size (negsuc n) width = Err traps.Bounds

abbrev pub accessed_if : Option Live → Bool → ℕ → ℕ → ℤ → ℕ → Result Access SegTrap
accessed_if None sealed base size offset width = Err traps.Freed
accessed_if (Some s) sealed base size offset width = accessed s sealed base size offset width

-- the access of so many bytes through a handle, or the first check that fails
abbrev pub access : Memory → Handle → ℕ → Result Access SegTrap
access m handles.Null width = Err traps.Null
access m handles.Broken width = Err traps.Invalid
access m (handles.Good sealed id base size offset) width = accessed_if (live_of m id) sealed base size offset width

-- the same of a handle, which lies at a multiple of 16
abbrev pub aligned : Result Access SegTrap → Result Access SegTrap
aligned (Ok a) = if a.address % 16 == 0 then Ok a else Err traps.Misaligned
aligned (Err e) = Err e

abbrev pub handle_access : Memory → Handle → Result Access SegTrap
handle_access m h = aligned (access m h 16)

-- the same of a write, for which the handle may not be sealed
abbrev pub writable : Result Access SegTrap → Result Access SegTrap
writable (Ok a) = if a.sealed then Err traps.Readonly else Ok a
writable (Err e) = Err e

abbrev pub read_event : Access → ℕ → Event
read_event a width = events.Read a.sealed a.id a.lo a.hi a.address width

abbrev pub write_event : Access → ℕ → Event
write_event a width = events.Write a.id a.lo a.hi a.address width

-- the number that is read, if it is one
abbrev pub as_number : Option ℕ → Event → Result (ℕ × Event) SegTrap
as_number (Some n) event = Ok (n, event)
as_number None event = Err traps.Provenance

abbrev pub loaded_at : Memory → ℕ → Result Access SegTrap → Result (ℕ × Event) SegTrap
loaded_at m width (Ok a) = as_number (number_at (range a.address width m.bytes)) (read_event a width)
loaded_at m width (Err e) = Err e

abbrev pub loaded : Memory → Handle → ℕ → Result (ℕ × Event) SegTrap
loaded m h width = loaded_at m width (access m h width)

-- what a load leaves: a trap is no access
abbrev pub after_load : {A : Type 0} → Memory → Result A SegTrap → Memory
after_load m (Ok x) = once_more m
after_load m (Err e) = m

-- these bytes are written by one access, and nothing else changes
abbrev pub with_bytes : Memory → ℕ → List Byte → Memory
with_bytes m address new = record { bytes = overwritten address new m.bytes; live = m.live; made = m.made; accesses = risen m.accesses }

-- what a store gives and leaves
pub data Stores (m : Memory) (new : List Byte) (width : ℕ) : Result Access SegTrap → Result Event SegTrap → Memory → Type 0 where
  stored : {a : Access} → Stores m new width (Ok a) (Ok (write_event a width)) (with_bytes m a.address new)
  stopped : {e : SegTrap} → Stores m new width (Err e) (Err e) m

-- what a load of a handle gives
pub data LoadsHandle (m : Memory) : Result Access SegTrap → Result (Handle × Event) SegTrap → Type 0 where
  read : {a : Access} {h : Handle} → IsHandleAt (range a.address 16 m.bytes) h → LoadsHandle m (Ok a) (Ok (h, read_event a 16))
  stopped : {e : SegTrap} → LoadsHandle m (Err e) (Err e)

-- what freeing gives and leaves
pub data Frees (m : Memory) : Result ℕ SegTrap → Result Event SegTrap → Memory → Type 0 where
  ended : {id : ℕ} → Frees m (Ok id) (Ok (events.Free id)) (record { bytes = m.bytes; live = without id m.live; made = m.made; accesses = m.accesses })
  stopped : {e : SegTrap} → Frees m (Err e) (Err e) m
