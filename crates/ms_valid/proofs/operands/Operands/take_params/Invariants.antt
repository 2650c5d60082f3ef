use Rattle.std.proofs.Common.{◌≤◌, length, drop, reverse}
use Rattle.ms_valid.specs.refinement.Shape.{Becomes, Takes}
use Rattle.ms_valid.proofs.operands.Operands.take_params.Given as goal

abbrev pub invariant-loop-i : goal.invariant-loop-i
invariant-loop-i l = (l.i ≤ length l.params) × Becomes l.fn.self (Takes (reverse (drop l.i l.params))) l.self

abbrev pub decreases-loop-i : goal.decreases-loop-i
decreases-loop-i l = l.i
