-- How often bytes of the segment memory were read or written through handles, by what has happened.
use Rattle.std.specs.Prelude.{ℕ, List, [], ◌∷◌}
use Rattle.ms_event.specs.declared.event.Event.{Event}
use Rattle.ms_event.specs.declared.event.Event.TheVariants as events
use Rattle.ms_segment.specs.Memory.{risen}

-- the count after an event: reads and writes are accesses, and nothing else is
abbrev pub counted : Event → ℕ → ℕ
counted (events.Read sealed id lo hi address width) n = risen n
counted (events.Write id lo hi address width) n = risen n
counted _ n = n

-- the count after several, in order
abbrev pub counted_all : List Event → ℕ → ℕ
counted_all [] n = n
counted_all (e ∷ es) n = counted_all es (counted e n)
