-- The lines of the sets so far.
use Rattle.std.proofs.Common.{◌≡◌, ◌++◌, List, ℕ}
use Rattle.ms_run.proofs.Reaching.{Goes}
use Rattle.ms_run.proofs.reached.reach_all.Given as goal

abbrev pub invariant-loop-number : goal.invariant-loop-number
invariant-loop-number g l = (told : List ℕ) × (l.lines.items ≡ l.initial.lines.items ++ told) × Goes l.crew.crew l.asked told l.number
