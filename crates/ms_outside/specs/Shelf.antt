-- Reading a file from a shelf, and writing one.
use Rattle.std.specs.Prelude.{◌≡◌, ◌≤◌, ◌<◌, ◌⊎◌, ℕ, List, length, Option, None, Some, MatchOption, ⊤}
use Rattle.std.specs.FinMap.{insert}
use Rattle.ms_outside.specs.declared.shelf.Fetched.{Fetched}
use Rattle.ms_outside.specs.declared.shelf.Fetched.TheVariants.{Bytes, TooLong, Failed, Memory}
use Rattle.ms_outside.specs.declared.sink.Put as put
use Rattle.ms_outside.specs.Faults.{Rose}
use Rattle.ms_outside.specs.Files.{Files, bytes_of}
use Rattle.ms_outside.specs.Sink.{IsFront}

-- what a shelf that may not tell its files says of a file
abbrev pub IfKnown : Option Files → List ℕ → (List ℕ → Type 0) → Type 0
IfKnown files name P = MatchOption files ⊤ (λ known. P (bytes_of known name))

-- what reading the file gives: too long exactly where it has more bytes than the limit, else all of them
abbrev pub Fetches : List ℕ → ℕ → Option Files → Fetched → Type 0
Fetches name limit files (Bytes v) = (length v.items ≤ limit) × IfKnown files name (λ bytes. v.items ≡ bytes)
Fetches name limit files TooLong = IfKnown files name (λ bytes. limit < length bytes)
Fetches name limit files Failed = ⊤
Fetches name limit files Memory = ⊤

-- the counts of faults after a read of the file that gave this
abbrev pub SameCounts : (List ℕ → ℕ) → (List ℕ → ℕ) → Type 0
SameCounts before after = (name : List ℕ) → after name ≡ before name

pub record CountsReadFault (name : List ℕ) (before after : List ℕ → ℕ) : Type 0 where
  pub never_fall : (other : List ℕ) → before other ≤ after other
  pub rose : Rose (before name) (after name)

abbrev pub CountsRead : List ℕ → Fetched → (List ℕ → ℕ) → (List ℕ → ℕ) → Type 0
CountsRead name (Bytes v) before after = SameCounts before after
CountsRead name TooLong before after = SameCounts before after
CountsRead name Failed before after = CountsReadFault name before after
CountsRead name Memory before after = SameCounts before after

-- the files after a write of these bytes under this name that gave this, where these files were known
abbrev pub WritesInto : put.Put → List ℕ → List ℕ → Files → Option Files → Type 0
WritesInto put.TheVariants.Done name bytes known new = new ≡ Some (insert known name bytes)
WritesInto put.TheVariants.Failed name bytes known new =
    (new ≡ Some known) ⊎ ((front : List ℕ) × IsFront front bytes × (new ≡ Some (insert known name front)))
WritesInto put.TheVariants.Memory name bytes known new = new ≡ Some known

-- the same of a shelf that may not tell its files
abbrev pub Writes : List ℕ → List ℕ → put.Put → Option Files → Option Files → Type 0
Writes name bytes answer old new = MatchOption old (new ≡ None) (λ known. WritesInto answer name bytes known new)
