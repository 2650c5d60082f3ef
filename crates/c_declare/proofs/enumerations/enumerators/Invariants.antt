use Rattle.std.proofs.Common.{◌≡◌, drop, [], Some}
use Rattle.c_check_types.specs.refinement.Views.{state_of}
use Rattle.c_declare.specs.Enumerations.{enumerators}
use Rattle.c_declare.proofs.enumerations.enumerators.Given as goal

abbrev pub invariant-loop-x : goal.invariant-loop-x
invariant-loop-x l =
    enumerators (drop l.x-index l.xs) l.next l.kept.items (state_of l.checker) ≡ enumerators l.xs (Some 0) [] (state_of l.fn.checker)
