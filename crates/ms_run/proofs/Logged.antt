-- The counts of a log are those of the events of a run.
use Rattle.std.proofs.Common.{◌≡◌, ◌∙◌, ◌+◌, ℕ, Bool, true, false, List, [], ◌∷◌, if◌then◌else◌, refl, arith}
use Rattle.ms_event.specs.declared.event.Event.{Event}
use Rattle.ms_event.specs.declared.event.Event.TheVariants.{Alloc, Free, Read, Refused, Seal, Slice, Write}
use Rattle.ms_machine.specs.Crews.{Deeds, events_of}
use Rattle.ms_tasks.specs.refinement.Logs.{Trace, all_seen, logged, seen}
use Rattle.ms_run.specs.Telling.{count_lines, counted, how_many, is_alloc, is_free, is_read, is_write}
use Rattle.ms_run.specs.declared.telling.Telling.{Telling}
use Rattle.ms_run.specs.refinement.Counts.{blank, logged_lines}

allocs_seen : (es : List Event) (t : Trace) → (all_seen es t).tally.allocs ≡ t.tally.allocs + how_many is_alloc es
allocs_seen [] t = omega arith
allocs_seen (Alloc id address size ∷ es) t = allocs_seen es (seen (Alloc id address size) t) ∙ omega arith
allocs_seen (Refused size ∷ es) t = allocs_seen es (seen (Refused size) t) ∙ omega arith
allocs_seen (Seal id lo hi ∷ es) t = allocs_seen es (seen (Seal id lo hi) t) ∙ omega arith
allocs_seen (Slice sealed id lo hi lo2 hi2 ∷ es) t = allocs_seen es (seen (Slice sealed id lo hi lo2 hi2) t) ∙ omega arith
allocs_seen (Read sealed id lo hi address width ∷ es) t = allocs_seen es (seen (Read sealed id lo hi address width) t) ∙ omega arith
allocs_seen (Write id lo hi address width ∷ es) t = allocs_seen es (seen (Write id lo hi address width) t) ∙ omega arith
allocs_seen (Free id ∷ es) t = allocs_seen es (seen (Free id) t) ∙ omega arith

frees_seen : (es : List Event) (t : Trace) → (all_seen es t).tally.frees ≡ t.tally.frees + how_many is_free es
frees_seen [] t = omega arith
frees_seen (Alloc id address size ∷ es) t = frees_seen es (seen (Alloc id address size) t) ∙ omega arith
frees_seen (Refused size ∷ es) t = frees_seen es (seen (Refused size) t) ∙ omega arith
frees_seen (Seal id lo hi ∷ es) t = frees_seen es (seen (Seal id lo hi) t) ∙ omega arith
frees_seen (Slice sealed id lo hi lo2 hi2 ∷ es) t = frees_seen es (seen (Slice sealed id lo hi lo2 hi2) t) ∙ omega arith
frees_seen (Read sealed id lo hi address width ∷ es) t = frees_seen es (seen (Read sealed id lo hi address width) t) ∙ omega arith
frees_seen (Write id lo hi address width ∷ es) t = frees_seen es (seen (Write id lo hi address width) t) ∙ omega arith
frees_seen (Free id ∷ es) t = frees_seen es (seen (Free id) t) ∙ omega arith

reads_seen : (es : List Event) (t : Trace) → (all_seen es t).tally.reads ≡ t.tally.reads + how_many is_read es
reads_seen [] t = omega arith
reads_seen (Alloc id address size ∷ es) t = reads_seen es (seen (Alloc id address size) t) ∙ omega arith
reads_seen (Refused size ∷ es) t = reads_seen es (seen (Refused size) t) ∙ omega arith
reads_seen (Seal id lo hi ∷ es) t = reads_seen es (seen (Seal id lo hi) t) ∙ omega arith
reads_seen (Slice sealed id lo hi lo2 hi2 ∷ es) t = reads_seen es (seen (Slice sealed id lo hi lo2 hi2) t) ∙ omega arith
reads_seen (Read sealed id lo hi address width ∷ es) t = reads_seen es (seen (Read sealed id lo hi address width) t) ∙ omega arith
reads_seen (Write id lo hi address width ∷ es) t = reads_seen es (seen (Write id lo hi address width) t) ∙ omega arith
reads_seen (Free id ∷ es) t = reads_seen es (seen (Free id) t) ∙ omega arith

writes_seen : (es : List Event) (t : Trace) → (all_seen es t).tally.writes ≡ t.tally.writes + how_many is_write es
writes_seen [] t = omega arith
writes_seen (Alloc id address size ∷ es) t = writes_seen es (seen (Alloc id address size) t) ∙ omega arith
writes_seen (Refused size ∷ es) t = writes_seen es (seen (Refused size) t) ∙ omega arith
writes_seen (Seal id lo hi ∷ es) t = writes_seen es (seen (Seal id lo hi) t) ∙ omega arith
writes_seen (Slice sealed id lo hi lo2 hi2 ∷ es) t = writes_seen es (seen (Slice sealed id lo hi lo2 hi2) t) ∙ omega arith
writes_seen (Read sealed id lo hi address width ∷ es) t = writes_seen es (seen (Read sealed id lo hi address width) t) ∙ omega arith
writes_seen (Write id lo hi address width ∷ es) t = writes_seen es (seen (Write id lo hi address width) t) ∙ omega arith
writes_seen (Free id ∷ es) t = writes_seen es (seen (Free id) t) ∙ omega arith

-- the lines of a log that was empty before a run
module _ (keep : Bool) (d : Deeds) where
  abbrev after : Trace
  after = all_seen (events_of d) (blank keep).trace

  abbrev of_events : List ℕ
  of_events = count_lines d.used (how_many is_alloc (events_of d)) (how_many is_free (events_of d)) (how_many is_read (events_of d)) (how_many is_write (events_of d))

  same_lines : count_lines (0 + d.used) after.tally.allocs after.tally.frees after.tally.reads after.tally.writes ≡ of_events
  same_lines =
      let none : 0 + d.used ≡ d.used = omega arith in
      let allocs : after.tally.allocs ≡ how_many is_alloc (events_of d) = allocs_seen (events_of d) (blank keep).trace ∙ omega arith in
      let frees : after.tally.frees ≡ how_many is_free (events_of d) = frees_seen (events_of d) (blank keep).trace ∙ omega arith in
      let reads : after.tally.reads ≡ how_many is_read (events_of d) = reads_seen (events_of d) (blank keep).trace ∙ omega arith in
      let writes : after.tally.writes ≡ how_many is_write (events_of d) = writes_seen (events_of d) (blank keep).trace ∙ omega arith in
      rw (none, allocs, frees, reads, writes) refl

  if_counted : (b : Bool) → (if b then count_lines (0 + d.used) after.tally.allocs after.tally.frees after.tally.reads after.tally.writes else []) ≡ (if b then of_events else [])
  if_counted true = same_lines
  if_counted false = refl

  pub lines_logged : (telling : Telling) → logged_lines telling (logged d (blank keep)) ≡ counted telling d
  lines_logged telling = if_counted telling.counts
