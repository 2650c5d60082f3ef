use Rattle.std.proofs.Common.{◌++◌, drop, take}
use Rattle.ms_reach.specs.refinement.Closing.{Gathers}
use Rattle.ms_reach.proofs.own.add_locals.Given as goal

abbrev pub invariant-loop-i : goal.invariant-loop-i
invariant-loop-i l = Gathers l.live (take l.i (drop l.at (l.frames.0 ++ l.frames.1))) l.fn.closing l.closing
