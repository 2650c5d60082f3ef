-- The text so far, and that of the events that are left.
use Rattle.std.proofs.Common.{◌≡◌, ◌++◌, drop}
use Rattle.ms_monitor.specs.Traces.{trace_text}
use Rattle.ms_monitor.proofs.trace.print_trace.Given as goal

abbrev pub invariant-loop-event : goal.invariant-loop-event
invariant-loop-event l = l.text.items ++ trace_text (drop l.event-index l.events) ≡ trace_text l.events
