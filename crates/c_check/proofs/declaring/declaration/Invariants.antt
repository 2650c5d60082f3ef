use Rattle.std.proofs.Common.{◌≡◌, drop}
use Rattle.c_types.specs.Types.{type_of}
use Rattle.c_check_types.specs.refinement.Views.{state_of}
use Rattle.c_check.specs.Statements.{declaration}
use Rattle.c_check.specs.refinement.Views.{declaring_of}
use Rattle.c_check.proofs.declaring.declaration.Given as goal

abbrev pub invariant-loop-x : goal.invariant-loop-x
invariant-loop-x l =
    declaration (type_of l.b) (drop l.x-index l.xs) (declaring_of l.so_far) (state_of l.checker)
    ≡ declaration (type_of l.b) l.xs (declaring_of l.fn.so_far) (state_of l.fn.checker)
