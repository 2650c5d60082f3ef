-- What reading a trace and judging it answer. Want of memory is the one free answer.
use Rattle.std.specs.Prelude.{ℕ, List, Result, Ok, Err}
use Rattle.ms_event.specs.declared.event.Event.{Event}
use Rattle.ms_event.specs.Monitor.{Accepts}
use Rattle.ms_monitor.specs.Traces.{IsNoTrace, IsTrace, RejectsAt}
use Rattle.ms_monitor.specs.declared.trace.TraceFault.{TraceFault}
use Rattle.ms_monitor.specs.declared.trace.TraceFault.TheVariants as traces
use Rattle.ms_monitor.specs.declared.judgement.JudgeFault.{JudgeFault}
use Rattle.ms_monitor.specs.declared.judgement.JudgeFault.TheVariants as judging

abbrev pub ReadsTrace : List ℕ → Result (List Event) TraceFault → Type 0
ReadsTrace text (Ok events) = IsTrace text events
ReadsTrace text (Err (traces.Line n)) = IsNoTrace text n
ReadsTrace text (Err traces.Memory) = Unit {0}

abbrev pub JudgesTrace : (capacity : ℕ) → List Event → Result Unit JudgeFault → Type 0
JudgesTrace capacity events (Ok _) = Accepts capacity events
JudgesTrace capacity events (Err (judging.Rejected n)) = RejectsAt capacity events n
JudgesTrace capacity events (Err judging.Memory) = Unit {0}
