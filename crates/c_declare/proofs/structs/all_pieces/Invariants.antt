use Rattle.std.proofs.Common.{◌≡◌, drop}
use Rattle.c_check_types.specs.refinement.Views.{state_of}
use Rattle.c_declare.specs.Structs.{all_pieces}
use Rattle.c_declare.specs.refinement.Views.{opens_of}
use Rattle.c_declare.proofs.structs.all_pieces.Given as goal

abbrev pub invariant-loop-p : goal.invariant-loop-p
invariant-loop-p l =
    all_pieces (opens_of l.opens) (drop l.p-index l.ps) (state_of l.checker) ≡ all_pieces (opens_of l.fn.opens) l.ps (state_of l.fn.checker)
