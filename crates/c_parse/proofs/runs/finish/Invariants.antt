use Rattle.std.proofs.Common.{[]}
use Rattle.c_productions.specs.refinement.Meaning.{Reaches}
use Rattle.c_parse.specs.refinement.Calls.{state}
use Rattle.c_parse.proofs.Falls.{amount}
use Rattle.c_parse.proofs.runs.finish.Given as goal

abbrev pub invariant-coming : goal.invariant-coming
invariant-coming l = Reaches (state l.fn.goal l.fn.waiting) [] (state l.goal l.waiting) []

abbrev pub decreases-coming : goal.decreases-coming
decreases-coming l = amount l.waiting
