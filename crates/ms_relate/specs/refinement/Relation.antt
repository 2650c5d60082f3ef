-- The relation between objects and the segment memory.
use Rattle.std.specs.Prelude.{◌≡◌, ℕ, ◌+◌, ◌*◌, ◌%◌, ◌<◌, ◌≤◌, true, false, List, length, Option, Some, None, slice_get}
use Rattle.c_types.specs.Layout.{Table}
use Rattle.c_types.specs.Types.{Ty}
use Rattle.c_meaning.specs.Shapes.{size, width}
use Rattle.c_meaning.specs.Values.{Value, count}
use Rattle.c_meaning.specs.Objects.{Kind, heap, frame, Object}
use Rattle.ms_relate.specs.refinement.Laid.{Fits, AreLaid, is_handle}
use Rattle.ms_handle.specs.declared.handle.Handle.{Handle}
use Rattle.ms_handle.specs.declared.handle.Handle.TheVariants as handles
use Rattle.ms_handle.specs.declared.handle.Kind.{Kind as SegmentKind}
use Rattle.ms_handle.specs.declared.handle.Kind.TheVariants as kinds
use Rattle.ms_live.specs.declared.gaps.Live.{Live}
use Rattle.ms_tagged.specs.Bytes.{Byte, data_of, pieces, range, zeros}
use Rattle.ms_segment.specs.Memory.{Memory, Placed, live_of}
use Rattle.ms_relate.specs.refinement.Homes.{Home, handle, IsOf, word}

abbrev pub kind_of : Kind → SegmentKind
kind_of heap = kinds.Heap
kind_of frame = kinds.Frame

-- the pieces of a handle; null is also sixteen data bytes 0
pub data ArePieces (bytes : List Byte) : Handle → Type 0 where
  whole : {h : Handle} → bytes ≡ pieces h → ArePieces bytes h
  cleared : bytes ≡ zeros → ArePieces bytes handles.Null

module _ (table : Table) (places : Ty → ℕ → ℕ) where
  -- these bytes are a value of a type
  pub record Spell (homes : List Home) (t : Ty) (v : Value) (bytes : List Byte) : Type 0 where
    pub data' : is_handle t ≡ false → bytes ≡ data_of (width t) (word places t v)
    pub pieces' : is_handle t ≡ true → ArePieces bytes (handle homes v)

  -- a value of the type stands at the address
  pub record StandsAt (homes : List Home) (bytes : List Byte) (address : ℕ) (t : Ty) (v : Value) : Type 0 where
    pub is_of : IsOf table places homes t v
    pub aligned : is_handle t ≡ true → address % 16 ≡ 0
    pub spelled : Spell homes t v (range address (width t) bytes)

  -- an object that is alive has its live segment, of its kind and size, in which its leaves stand; one that has ended has none
  pub data IsThere (homes : List Home) (bytes : List Byte) (o : Object) (h : Home) : Option Live → Type 0 where
    gone : o.alive ≡ false → IsThere homes bytes o h None
    lives : {s : Live} → o.alive ≡ true → s.kind ≡ kind_of o.kind → s.size ≡ h.count * size h.shape → count o.trees ≡ h.count
        → AreLaid (λ place. StandsAt homes bytes (s.base + place)) o.trees h.shape 0 → IsThere homes bytes o h (Some s)

  pub record IsAt (homes : List Home) (m : Memory) (o : Object) (h : Home) : Type 0 where
    pub shape : o.shape ≡ h.shape
    pub count : o.count ≡ h.count
    pub fits : Fits h.shape
    pub state : IsThere homes m.bytes o h (live_of m h.id)

  pub record Related (homes : List Home) (objects : List Object) (m : Memory) : Type 0 where
    pub long : length homes ≡ length objects
    pub each : (n : ℕ) (o : Object) (h : Home) → slice_get objects n ≡ Some o → slice_get homes n ≡ Some h → IsAt homes m o h
    -- identities rise with the objects' numbers, so that no two objects have one
    pub rising : (i j : ℕ) (g h : Home) → i < j → slice_get homes i ≡ Some g → slice_get homes j ≡ Some h → g.id < h.id
    pub made : (n : ℕ) (h : Home) → slice_get homes n ≡ Some h → (1 ≤ h.id) × (h.id ≤ m.made)
    pub placed : Placed m
