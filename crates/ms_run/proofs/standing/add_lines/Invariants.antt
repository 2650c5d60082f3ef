-- The lines so far, and those of the tasks that are left.
use Rattle.std.proofs.Common.{◌≡◌, ◌++◌, drop}
use Rattle.ms_run.specs.Standing.{standing_lines}
use Rattle.ms_run.specs.refinement.Told.{state_in}
use Rattle.ms_run.proofs.standing.add_lines.Given as goal

abbrev pub invariant-loop-number : goal.invariant-loop-number
invariant-loop-number g l = l.lines.items ++ standing_lines (state_in l.crew) l.number (drop l.number l.flags) ≡ l.initial.lines.items ++ standing_lines (state_in l.crew) 0 l.flags
