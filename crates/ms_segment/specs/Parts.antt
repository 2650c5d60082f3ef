-- What the parts of a call on the segment memory give.
use Rattle.std.specs.Prelude.{◌≡◌, ◌⊎◌, ℕ, ◌+◌, ◌<◌, [], ◌∷◌, ◌++◌, Option, Some, None, length, replicate}
use Rattle.ms_handle.specs.declared.handle.Kind.{Kind}
use Rattle.ms_live.specs.Place.{IsPlace, without}
use Rattle.ms_event.specs.Monitor.{most_live}
use Rattle.ms_segment.specs.Memory.{Access, Memory}
use Rattle.ms_segment.specs.declared.access.Access.{Access as Spot}
use Rattle.ms_tagged.specs.Bytes.{Data, overwritten}

-- the access that the program's record of one says
abbrev pub access_of : Spot → Access
access_of a = record { address = a.address; id = a.id; lo = a.lo; hi = a.hi; sealed = a.sealed }

-- the place for a segment of this size, or none where no more may be live or none is free
abbrev pub IsPlaceIn : Memory → ℕ → Option ℕ → Type 0
IsPlaceIn m size None = (length m.live ≡ most_live) ⊎ IsPlace m.live (length m.bytes) size None
IsPlaceIn m size (Some base) = (length m.live < most_live) × IsPlace m.live (length m.bytes) size (Some base)

-- the memory with one more segment, with the next identity and bytes 0
abbrev pub entered : Memory → ℕ → ℕ → Kind → Memory
entered m base size kind = record {
  bytes = overwritten base (replicate size (Data 0)) m.bytes;
  live = m.live ++ record { id = m.made + 1; base = base; size = size; kind = kind } ∷ [];
  made = m.made + 1;
  accesses = m.accesses;
}

-- the memory with one segment less
abbrev pub with_ended : Memory → ℕ → Memory
with_ended m id = record { bytes = m.bytes; live = without id m.live; made = m.made; accesses = m.accesses }
