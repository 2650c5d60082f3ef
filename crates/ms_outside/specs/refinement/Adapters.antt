-- What the adapters do to the bytes that a device has left, and to those that it holds, where those are known.
use Rattle.std.specs.Prelude.{◌≤◌, ◌+◌, ◌≡◌, ℕ, List, [], ◌∷◌, length, Option, ⊤}
use Rattle.std.specs.Io.KnownBytes.{Appends, Consumes, IsAtEnd}
use Rattle.ms_outside.specs.declared.shelf.Fetched.{Fetched}
use Rattle.ms_outside.specs.declared.shelf.Fetched.TheVariants.{Bytes, TooLong, Failed, Memory}
use Rattle.ms_outside.specs.declared.source.Got as got
use Rattle.ms_outside.specs.declared.sink.Put as put
use Rattle.ms_outside.specs.Sink.{IsFront}

-- a take reads the byte that it gives, and else nothing
abbrev pub ReadsByte : got.Got → Option (List ℕ) → Option (List ℕ) → Type 0
ReadsByte (got.TheVariants.Byte b) old new = Consumes old new (b ∷ [])
ReadsByte got.TheVariants.End old new = Consumes old new [] × IsAtEnd new
ReadsByte got.TheVariants.Failed old new = Consumes old new []

-- writing a piece gives all of it to the device, or a front of it where it fails
abbrev pub WritesPiece : put.Put → List ℕ → Option (List ℕ) → Option (List ℕ) → Type 0
WritesPiece put.TheVariants.Done piece old new = Appends old new piece
WritesPiece put.TheVariants.Failed piece old new = (front : List ℕ) × IsFront front piece × Appends old new front
WritesPiece put.TheVariants.Memory piece old new = ⊥

-- what is done has been flushed
abbrev pub Flushes : {D : Type 0} → (D → Type 0) → put.Put → D → Type 0
Flushes is_flushed put.TheVariants.Done device = is_flushed device
Flushes is_flushed put.TheVariants.Failed device = ⊤
Flushes is_flushed put.TheVariants.Memory device = ⊤

-- reading took at most this many bytes
abbrev pub ConsumesAtMost : ℕ → Option (List ℕ) → Option (List ℕ) → Type 0
ConsumesAtMost most old new = (bytes : List ℕ) × (length bytes ≤ most) × Consumes old new bytes

-- Reading to the end, of at most limit bytes: it never takes more than one byte beyond the limit, and where it is too long it took that one.
abbrev pub ReadsToEnd : ℕ → Option (List ℕ) → Option (List ℕ) → Fetched → Type 0
ReadsToEnd limit old new (Bytes v) = (length v.items ≤ limit) × Consumes old new v.items × IsAtEnd new
ReadsToEnd limit old new TooLong = (bytes : List ℕ) × (length bytes ≡ limit + 1) × Consumes old new bytes
ReadsToEnd limit old new Failed = ConsumesAtMost limit old new
ReadsToEnd limit old new Memory = ConsumesAtMost (limit + 1) old new

-- What was not a failure came from reading to its end a file that was opened. No contract can say which bytes a file has.
abbrev pub ReadsFile : {File : Type 0} → (File → Type 0) → (File → Option (List ℕ)) → ℕ → Fetched → Type 0
ReadsFile {File} is_opened left limit (Bytes v) = (before : File) × (after : File) × is_opened before × ReadsToEnd limit (left before) (left after) (Bytes v)
ReadsFile {File} is_opened left limit TooLong = (before : File) × (after : File) × is_opened before × ReadsToEnd limit (left before) (left after) TooLong
ReadsFile is_opened left limit Failed = ⊤
ReadsFile {File} is_opened left limit Memory = (before : File) × (after : File) × is_opened before × ReadsToEnd limit (left before) (left after) Memory

-- what is done gave all bytes to a file that was created, and flushed it
abbrev pub WritesFile : {File : Type 0} → (File → Type 0) → (File → Option (List ℕ)) → (File → Type 0) → List ℕ → put.Put → Type 0
WritesFile {File} is_created held is_flushed bytes put.TheVariants.Done =
    (before : File) × (after : File) × is_created before × Appends (held before) (held after) bytes × is_flushed after
WritesFile is_created held is_flushed bytes put.TheVariants.Failed = ⊤
WritesFile is_created held is_flushed bytes put.TheVariants.Memory = ⊥
