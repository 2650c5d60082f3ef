use Rattle.std.proofs.Common.{◌≡◌, length}
use Rattle.ms_tagged.proofs.tests.written.Given as goal

abbrev pub invariant-loop-step : goal.invariant-loop-step
invariant-loop-step g l = length (g.T.Tagged.bytes l.memory) ≡ l.capacity
