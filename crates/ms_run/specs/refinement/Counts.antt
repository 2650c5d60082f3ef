-- The numbers of what a run did, as its log tells them.
use Rattle.std.specs.Prelude.{ℕ, Bool, List, [], if◌then◌else◌}
use Rattle.ms_event.specs.refinement.Tally.{nothing}
use Rattle.ms_tasks.specs.refinement.Logs.{Log}
use Rattle.ms_run.specs.Telling.{count_lines}
use Rattle.ms_run.specs.declared.telling.Telling.{Telling}

-- a log before a run, which keeps the events or doesn't
abbrev pub blank : Bool → Log
blank keep = record { entries = 0; trace = record { keep = keep; tally = nothing; events = [] } }

abbrev pub logged_lines : Telling → Log → List ℕ
logged_lines t l = if t.counts then count_lines l.entries l.trace.tally.allocs l.trace.tally.frees l.trace.tally.reads l.trace.tally.writes else []
