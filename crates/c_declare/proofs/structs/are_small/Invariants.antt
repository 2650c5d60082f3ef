use Rattle.std.proofs.Common.{drop}
use Rattle.std.specs.List.{All}
use Rattle.c_types.specs.Layout.{IsSmall}
use Rattle.c_types.specs.refinement.Views.{types_in}
use Rattle.c_declare.proofs.structs.are_small.Given as goal

-- where what is left is small, all is
abbrev pub invariant-loop-t : goal.invariant-loop-t
invariant-loop-t l =
    All (IsSmall l.structs) (types_in (drop l.t-index l.types)) → All (IsSmall l.structs) (types_in l.types)
