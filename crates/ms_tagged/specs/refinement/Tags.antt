-- What the tags of memory say of its bytes.
use Rattle.std.specs.Prelude.{ℕ, zero, suc, ◌+◌, ◌-◌, List, [], ◌∷◌, ◌++◌, length, map, replicate}
use Rattle.ms_handle.specs.declared.handle.Handle.{Handle}
use Rattle.ms_tagged.specs.Bytes.{Byte, Data, Piece}
use Rattle.ms_tagged.specs.declared.tag.Tag.{Tag}
use Rattle.ms_tagged.specs.declared.tag.Tag.TheVariants as tagged

-- the byte that a tag is
abbrev pub byte_of : Tag → Byte
byte_of (tagged.Data byte) = Data byte
byte_of (tagged.Piece handle i) = Piece handle i

-- the bytes that tags are
abbrev pub bytes_of : List Tag → List Byte
bytes_of = map byte_of

-- so many pieces of a handle, from this number on
abbrev pub pieces_from : Handle → ℕ → ℕ → List Byte
pieces_from handle i zero = []
pieces_from handle i (suc n) = Piece handle i ∷ pieces_from handle (i + 1) n

-- so many bytes: these, and data bytes 0 behind them
abbrev pub filled : ℕ → List Byte → List Byte
filled n bytes = bytes ++ replicate (n - length bytes) (Data 0)
