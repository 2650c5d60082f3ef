-- Bytes of the segment memory, as a plain list, each a datum or a piece of a handle: the tags of MSWasm (POPL 2023).
use Rattle.std.specs.Prelude.{◌≡◌, ◌≢◌, ℕ, zero, suc, ◌+◌, ◌*◌, ◌/◌, ◌%◌, ◌⊎◌, List, [], ◌∷◌, ◌++◌, length, take, drop, map, replicate, Option, Some, None}
use Rattle.ms_handle.specs.declared.handle.Handle.{Handle}
use Rattle.ms_handle.specs.declared.handle.Handle.TheVariants.{Null, Broken}

-- a data byte, or the piece of a handle with this number
pub data Byte : Type 0 where
  Data : ℕ → Byte
  Piece : Handle → ℕ → Byte

abbrev pub IsAligned : ℕ → Type 0
IsAligned address = address % 16 ≡ 0

abbrev pub IsWidth : ℕ → Type 0
IsWidth width = (width ≡ 1) ⊎ ((width ≡ 2) ⊎ ((width ≡ 4) ⊎ (width ≡ 8)))

-- so many bytes from an address on
abbrev pub range : ℕ → ℕ → List Byte → List Byte
range address width bytes = take width (drop address bytes)

-- these bytes stand from an address on, and all others are as before
abbrev pub overwritten : ℕ → List Byte → List Byte → List Byte
overwritten address new old = take address old ++ new ++ drop (address + length new) old

-- ---- data

-- the number of data bytes, the lowest one first
abbrev pub number_with : ℕ → Option ℕ → Option ℕ
number_with byte None = None
number_with byte (Some high) = Some (byte + 256 * high)

abbrev pub number_at : List Byte → Option ℕ
number_at [] = Some 0
number_at (Data byte ∷ bytes) = number_with byte (number_at bytes)
number_at (Piece handle i ∷ bytes) = None

-- the lowest bytes of a number, so many
abbrev pub data_of : ℕ → ℕ → List Byte
data_of zero value = []
data_of (suc width) value = Data (value % 256) ∷ data_of width (value / 256)

-- the first byte as data
abbrev pub shown_at : List Byte → Option ℕ
shown_at [] = None
shown_at (Data byte ∷ bytes) = Some byte
shown_at (Piece handle i ∷ bytes) = None

-- the handle of which the first byte is a piece
abbrev pub held_at : List Byte → Option Handle
held_at [] = None
held_at (Data byte ∷ bytes) = None
held_at (Piece handle i ∷ bytes) = Some handle

-- ---- handles

-- the sixteen pieces of a handle
abbrev pub pieces : Handle → List Byte
pieces handle = map (Piece handle) (0 ∷ 1 ∷ 2 ∷ 3 ∷ 4 ∷ 5 ∷ 6 ∷ 7 ∷ 8 ∷ 9 ∷ 10 ∷ 11 ∷ 12 ∷ 13 ∷ 14 ∷ 15 ∷ [])

-- sixteen data bytes 0
abbrev pub zeros : List Byte
zeros = replicate 16 (Data 0)

-- the handle that sixteen bytes are: that of their pieces, null where they are data bytes 0, else broken
pub data IsHandleAt (bytes : List Byte) : Handle → Type 0 where
  whole : {handle : Handle} → bytes ≡ pieces handle → IsHandleAt bytes handle
  cleared : bytes ≡ zeros → IsHandleAt bytes Null
  torn : ((handle : Handle) → bytes ≢ pieces handle) → bytes ≢ zeros → IsHandleAt bytes Broken
