use Rattle.std.proofs.Common.{◌≡◌, drop}
use Rattle.c_typed.specs.Constants.{give_constants}
use Rattle.c_typed.specs.refinement.Views.{list_of}
use Rattle.c_typed.proofs.constant.give_constants.Given as goal

abbrev pub invariant-loop-s : goal.invariant-loop-s
invariant-loop-s l = give_constants (list_of (drop l.s-index l.values)) ≡ give_constants (list_of l.values)
