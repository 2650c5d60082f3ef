use Rattle.std.proofs.Common.{◌≡◌, drop}
use Rattle.c_check_types.specs.refinement.Views.{state_of}
use Rattle.c_check.specs.Units.{externals}
use Rattle.c_check.proofs.unit.externals.Given as goal

abbrev pub invariant-loop-x : goal.invariant-loop-x
invariant-loop-x l = externals (drop l.x-index l.xs) (state_of l.checker) ≡ externals l.xs (state_of l.fn.checker)
