-- What the lines so far said, and what is left.
use Rattle.std.proofs.Common.{◌≡◌, ◌+◌, ◌≤◌, length}
use Rattle.std.specs.Str.Lines.{lines}
use Rattle.ms_job.specs.Jobs.{no_lines, with_lines}
use Rattle.ms_job.proofs.reader.draft.Given as goal

abbrev pub invariant-loop-left : goal.invariant-loop-left
invariant-loop-left l = record {
  read : with_lines (l.n + 1) l.draft (lines l.left) ≡ with_lines 1 no_lines (lines l.fn.text);
  few : l.n + length l.left ≤ length l.fn.text;
}

abbrev pub decreases-loop-left : goal.decreases-loop-left
decreases-loop-left l = length l.left
