-- The lines so far, and those of the tasks that are left.
use Rattle.std.proofs.Common.{◌≡◌, ◌++◌, drop}
use Rattle.std.specs.String.{string_bytes}
use Rattle.ms_machine.specs.Crews.{results}
use Rattle.ms_run.specs.Lines.{result_lines}
use Rattle.ms_run.proofs.execution.result_lines.Given as goal

abbrev pub invariant-loop-number : goal.invariant-loop-number
invariant-loop-number g l = string_bytes l.lines ++ result_lines (results (drop l.number l.crew.tasks)) ≡ result_lines (results l.crew.tasks)
