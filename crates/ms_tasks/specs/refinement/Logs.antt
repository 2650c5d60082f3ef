-- What a run tells as it goes: how many entries were used, how many events of each kind there were, and the events.
use Rattle.std.specs.Prelude.{◌≡◌, ◌≢◌, ◌≤◌, ℕ, ◌+◌, Bool, if◌then◌else◌, List, [], ◌∷◌, ◌++◌}
use Rattle.ms_event.specs.declared.event.Event.{Event}
use Rattle.ms_event.specs.declared.tally.Tally.{Tally}
use Rattle.ms_event.specs.refinement.Tally.{tallied}
use Rattle.ms_task.specs.Thread.{Thread}
use Rattle.ms_machine.specs.Crews.{Deeds, events_of}
use Rattle.ms_machine.specs.Store.{Store}
use Rattle.ms_machine.specs.declared.straight.Stretch.{Stretch}
use Rattle.ms_machine.specs.declared.straight.Stretch.TheVariants as stretches
use Rattle.ms_machine.specs.refinement.StraightLine.{GoesTelling}

pub record Trace : Type 0 where
  -- whether the events are kept
  pub keep : Bool
  pub tally : Tally
  -- the events, where they are kept
  pub events : List Event

pub record Log : Type 0 where
  pub entries : ℕ
  pub trace : Trace

abbrev pub seen : Event → Trace → Trace
seen e t = record { keep = t.keep; tally = tallied e t.tally; events = if t.keep then t.events ++ e ∷ [] else t.events }

abbrev pub all_seen : List Event → Trace → Trace
all_seen [] t = t
all_seen (e ∷ es) t = all_seen es (seen e t)

-- after these deeds
abbrev pub logged : Deeds → Log → Log
logged d l = record { entries = l.entries + d.used; trace = all_seen (events_of d) l.trace }

-- no count is above this
pub record CountsUpTo (n : ℕ) (t : Trace) : Type 0 where
  pub allocs : t.tally.allocs ≤ n
  pub refused : t.tally.refused ≤ n
  pub seals : t.tally.seals ≤ n
  pub slices : t.tally.slices ≤ n
  pub reads : t.tally.reads ≤ n
  pub writes : t.tally.writes ≤ n
  pub frees : t.tally.frees ≤ n

-- ---- quiet steps

-- so many, after which what they tell was seen
abbrev pub GoesSeen : Store → Thread → Trace → ℕ → Store → Thread → Trace → Type 0
GoesSeen s t trace n s' t' trace' = (es : List Event) × GoesTelling s t n es s' t' × (trace' ≡ all_seen es trace)

-- the same with what they came to; where memory ran out no event was lost
abbrev pub HaltsSeen : Stretch → Store → Thread → Trace → ℕ → Store → Thread → Trace → Type 0
HaltsSeen stretches.Paused s t trace n s' t' trace' = GoesSeen s t trace n s' t' trace' × (t'.work ≢ [])
HaltsSeen stretches.Ended s t trace n s' t' trace' = GoesSeen s t trace n s' t' trace' × (t'.work ≡ [])
HaltsSeen stretches.Memory s t trace n s' t' trace' = trace'.events ≡ trace.events
