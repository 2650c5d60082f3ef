use Rattle.std.proofs.Common.{◌≡◌, drop}
use Rattle.c_types.specs.Types.{type_of}
use Rattle.c_check_types.specs.refinement.Views.{state_of}
use Rattle.c_check.specs.Declarations.{declaration}
use Rattle.c_check.proofs.global.declaration.Given as goal

abbrev pub invariant-loop-x : goal.invariant-loop-x
invariant-loop-x l =
    declaration (type_of l.b) (drop l.x-index l.xs) (state_of l.checker) ≡ declaration (type_of l.b) l.xs (state_of l.fn.checker)
