use Rattle.c_parse.specs.refinement.Calls.{goal_of, state, Comes}
use Rattle.c_parse.proofs.Falls.{left}
use Rattle.c_parse.proofs.runs.take.Given as goal

abbrev pub invariant-coming : goal.invariant-coming
invariant-coming l = Comes (state l.fn.goal l.fn.waiting) l.word (state l.goal l.waiting)

abbrev pub decreases-coming : goal.decreases-coming
decreases-coming l = left (goal_of l.goal) l.waiting
