use Rattle.std.proofs.Common.{◌≡◌, drop}
use Rattle.c_types.specs.Types.{type_of}
use Rattle.c_check_types.specs.refinement.Views.{state_of}
use Rattle.c_declare.specs.Structs.{with_members}
use Rattle.c_declare.specs.refinement.Views.{open_of}
use Rattle.c_declare.proofs.structs.with_members.Given as goal

abbrev pub invariant-loop-d : goal.invariant-loop-d
invariant-loop-d l =
    with_members (open_of l.o) (type_of l.b) (drop l.d-index l.ds) (state_of l.checker)
    ≡ with_members (open_of l.fn.o) (type_of l.b) l.ds (state_of l.fn.checker)
