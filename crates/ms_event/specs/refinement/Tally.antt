-- How many events there were of each kind.
use Rattle.std.specs.Prelude.{ℕ, ◌+◌, ◌<◌, ◌^◌, List, [], ◌∷◌}
use Rattle.ms_event.specs.declared.event.Event.{Event}
use Rattle.ms_event.specs.declared.event.Event.TheVariants.{Alloc, Free, Read, Refused, Seal, Slice, Write}
use Rattle.ms_event.specs.declared.tally.Tally.{Tally}

abbrev pub nothing : Tally
nothing = record { allocs = 0; refused = 0; seals = 0; slices = 0; reads = 0; writes = 0; frees = 0 }

-- with one more event
abbrev pub tallied : Event → Tally → Tally
tallied (Alloc id addr size) t = record t { allocs = t.allocs + 1 }
tallied (Refused size) t = record t { refused = t.refused + 1 }
tallied (Seal id lo hi) t = record t { seals = t.seals + 1 }
tallied (Slice sealed id lo hi lo2 hi2) t = record t { slices = t.slices + 1 }
tallied (Read sealed id lo hi addr width) t = record t { reads = t.reads + 1 }
tallied (Write id lo hi addr width) t = record t { writes = t.writes + 1 }
tallied (Free id) t = record t { frees = t.frees + 1 }

-- with these
abbrev pub all_tallied : List Event → Tally → Tally
all_tallied [] t = t
all_tallied (e ∷ es) t = all_tallied es (tallied e t)

-- so many more events can be counted
pub record LeavesRoom (n : ℕ) (t : Tally) : Type 0 where
  pub allocs : t.allocs + n < 2 ^ 64
  pub refused : t.refused + n < 2 ^ 64
  pub seals : t.seals + n < 2 ^ 64
  pub slices : t.slices + n < 2 ^ 64
  pub reads : t.reads + n < 2 ^ 64
  pub writes : t.writes + n < 2 ^ 64
  pub frees : t.frees + n < 2 ^ 64
