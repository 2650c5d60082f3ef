-- The lines so far, and those of the segments that are left.
use Rattle.std.proofs.Common.{◌≡◌, ◌++◌, drop}
use Rattle.std.specs.Prelude.{flat_map}
use Rattle.ms_run.specs.Telling.{dump_line}
use Rattle.ms_run.proofs.dump.dump_all.Given as goal

abbrev pub invariant-loop-number : goal.invariant-loop-number
invariant-loop-number g l = l.lines.items ++ flat_map (dump_line l.segments) (drop l.number l.segments.live) ≡ l.initial.lines.items ++ flat_map (dump_line l.segments) l.segments.live
