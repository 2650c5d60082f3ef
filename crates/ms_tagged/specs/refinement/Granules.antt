-- What granules of sixteen bytes say of the bytes of the segment memory.
use Rattle.std.specs.Prelude.{◌≡◌, ◌≤◌, ◌<◌, ℕ, zero, suc, ◌+◌, ◌*◌, ◌/◌, ◌%◌, List, [], ◌∷◌, length, map, slice_index_or}
use Rattle.std.specs.Int.{bit_at}
use Rattle.ms_handle.specs.declared.handle.Handle.{Handle}
use Rattle.ms_handle.specs.declared.handle.Handle.TheVariants.{Null}
use Rattle.ms_tagged.specs.Bytes.{Byte, Data, Piece}
use Rattle.ms_tagged.specs.declared.granules.StoredHandle.{StoredHandle}

-- data bytes
abbrev pub data_bytes : List ℕ → List Byte
data_bytes = map Data

-- the number of bytes, the lowest one first
abbrev pub number_of : List ℕ → ℕ
number_of [] = 0
number_of (byte ∷ bytes) = byte + 256 * number_of bytes

-- what stands in a granule of which nothing was written
abbrev pub unset : StoredHandle
unset = record { handle = Null }

-- the handle that a granule keeps
abbrev pub handle_in : List StoredHandle → ℕ → Handle
handle_in handles granule = let stored = slice_index_or handles granule unset in stored.handle

-- bit i of the masks: 1 where byte i is a piece
abbrev pub piece_bit : List ℕ → ℕ → ℕ
piece_bit masks i = bit_at (slice_index_or masks (i / 16) 0) (i % 16)

abbrev pub byte_by : ℕ → ℕ → Handle → ℕ → Byte
byte_by zero plain handle number = Data plain
byte_by (suc _) plain handle number = Piece handle number

-- byte i; behind the granules that are there it is a data byte 0
abbrev pub byte_at : List ℕ → List ℕ → List StoredHandle → ℕ → Byte
byte_at plain masks handles i =
    let stored = slice_index_or handles (i / 16) unset in
    byte_by (piece_bit masks i) (slice_index_or plain i 0) stored.handle (i % 16)

-- so many bytes, from one on
abbrev pub bytes_from : (ℕ → Byte) → ℕ → ℕ → List Byte
bytes_from byte i zero = []
bytes_from byte i (suc n) = byte i ∷ bytes_from byte (suc i) n

-- the granules of the bytes from one up to another are there, and none of the bytes is a piece
pub record HoldData (masks : List ℕ) (from to : ℕ) : Type 0 where
  pub there : to ≤ 16 * length masks
  pub none : (i : ℕ) → from ≤ i → i < to → piece_bit masks i ≡ 0

-- the bytes from one up to another are no pieces any more; of all others the masks say what they said
pub record Forgets (old new : List ℕ) (from to : ℕ) : Type 0 where
  pub inside : (i : ℕ) → from ≤ i → i < to → piece_bit new i ≡ 0
  pub below : (i : ℕ) → i < from → piece_bit new i ≡ piece_bit old i
  pub above : (i : ℕ) → to ≤ i → piece_bit new i ≡ piece_bit old i

-- the same of the bits of one mask
pub record Clears (old new from to : ℕ) : Type 0 where
  pub inside : (i : ℕ) → from ≤ i → i < to → bit_at new i ≡ 0
  pub below : (i : ℕ) → i < from → bit_at new i ≡ bit_at old i
  pub above : (i : ℕ) → to ≤ i → bit_at new i ≡ bit_at old i

-- the mark of the block in which byte i stands, of 64 such marks in a word: 0 where nothing was written in that block, or all of it was cleared since
abbrev pub mark_bit : List ℕ → ℕ → ℕ
mark_bit written i = bit_at (slice_index_or written (i / 262144) 0) (i / 4096 % 64)

-- in a block that isn't marked each byte is a data byte 0, whatever handles are kept
pub record IsBlank (plain masks written : List ℕ) : Type 0 where
  pub zeros : (handles : List StoredHandle) (i : ℕ) → mark_bit written i ≡ 0 → byte_at plain masks handles i ≡ Data 0

-- the bytes from one up to another are data bytes 0; all others are what they were
pub record Wipes (plain masks plain' masks' : List ℕ) (from to : ℕ) : Type 0 where
  pub inside : (handles : List StoredHandle) (i : ℕ) → from ≤ i → i < to → byte_at plain' masks' handles i ≡ Data 0
  pub below : (handles : List StoredHandle) (i : ℕ) → i < from → byte_at plain' masks' handles i ≡ byte_at plain masks handles i
  pub above : (handles : List StoredHandle) (i : ℕ) → to ≤ i → byte_at plain' masks' handles i ≡ byte_at plain masks handles i
