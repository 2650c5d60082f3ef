-- What is told of a run beside its end: its events, in a file; how many steps and events there were; and the live segments, a line each.
use Rattle.std.specs.Prelude.{ℕ, Bool, true, false, List, [], ◌∷◌, ◌++◌, codes, filter, flat_map, length, if◌then◌else◌, Option, Some, None, option_map}
use Rattle.std.specs.Fmt.{decimal}
use Rattle.hex.specs.Hex.{encode_lower}
use Rattle.ms_event.specs.declared.event.Event.{Event}
use Rattle.ms_event.specs.declared.event.Event.TheVariants.{Alloc, Free, Read, Write}
use Rattle.ms_handle.specs.declared.handle.Kind.{Kind}
use Rattle.ms_handle.specs.declared.handle.Kind.TheVariants.{Frame, Heap}
use Rattle.ms_job.specs.declared.job.Job.{Job}
use Rattle.ms_live.specs.declared.gaps.Live.{Live}
use Rattle.ms_machine.specs.Crews.{Deeds, events_of}
use Rattle.ms_monitor.specs.Traces.{trace_text}
use Rattle.ms_segment.specs.Memory.{Memory}
use Rattle.ms_tagged.specs.Bytes.{Byte, range, shown_at}
use Rattle.ms_run.specs.Answers.{File}
use Rattle.ms_run.specs.Lines.{line}
use Rattle.ms_run.specs.declared.telling.Telling.{Telling}

-- what a job asks for, and its tasks, which are told of by their numbers: for each the number of its module, and the name of an export
pub record Inquiry : Type 0 where
  pub telling : Telling
  pub tasks : List (ℕ × List ℕ)

abbrev pub inquiry_of : Job → Inquiry
inquiry_of job = record {
  telling = record { trace = job.trace; counts = job.counts; dump = job.dump; reach = job.reach; each = job.each };
  tasks = job.tasks;
}

-- ---- the events

-- the file of the trace, if one is asked for
abbrev pub traced : Telling → List Event → Option File
traced t events = option_map (λ name. record { name = name; bytes = trace_text events }) t.trace

-- ---- how many steps and events there were

abbrev pub is_alloc : Event → Bool
is_alloc (Alloc id address size) = true
is_alloc _ = false

abbrev pub is_free : Event → Bool
is_free (Free id) = true
is_free _ = false

abbrev pub is_read : Event → Bool
is_read (Read sealed id lo hi address width) = true
is_read _ = false

abbrev pub is_write : Event → Bool
is_write (Write id lo hi address width) = true
is_write _ = false

abbrev pub count_lines : (steps allocs frees reads writes : ℕ) → List ℕ
count_lines steps allocs frees reads writes =
    codes "steps " ++ decimal steps ++ codes "\nallocs " ++ decimal allocs ++ codes "\nfrees " ++ decimal frees
    ++ codes "\nreads " ++ decimal reads ++ codes "\nwrites " ++ decimal writes ++ codes "\n"

abbrev pub how_many : (Event → Bool) → List Event → ℕ
how_many test events = length (filter test events)

-- the numbers of what a run did: of the entries that it used, and of its events of four kinds, if they are asked for
abbrev pub counted : Telling → Deeds → List ℕ
counted t d =
    if t.counts
    then count_lines d.used (how_many is_alloc (events_of d)) (how_many is_free (events_of d)) (how_many is_read (events_of d)) (how_many is_write (events_of d))
    else []

-- ---- the live segments

abbrev pub kind_word : Kind → List ℕ
kind_word Heap = codes "heap"
kind_word Frame = codes "frame"

-- two digits for a data byte; a piece of a handle has none
abbrev pub shown_word : Option ℕ → List ℕ
shown_word (Some byte) = encode_lower (byte ∷ [])
shown_word None = codes "--"

abbrev pub byte_word : Byte → List ℕ
byte_word byte = shown_word (shown_at (byte ∷ []))

-- those of a segment, behind a space; one without bytes has no word
abbrev pub bytes_word : List Byte → List ℕ
bytes_word [] = []
bytes_word (byte ∷ bytes) = codes " " ++ flat_map byte_word (byte ∷ bytes)

-- a segment: its identity, address, size, kind and bytes
abbrev pub dump_line : Memory → Live → List ℕ
dump_line m s = line (codes "dump " ++ decimal s.id ++ codes " " ++ decimal s.base ++ codes " " ++ decimal s.size ++ codes " " ++ kind_word s.kind
    ++ bytes_word (range s.base s.size m.bytes))

-- all of them, in the order of their identities, if they are asked for
abbrev pub dumped : Telling → Memory → List ℕ
dumped t m = if t.dump then flat_map (dump_line m) m.live else []
