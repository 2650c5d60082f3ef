use Rattle.c_types.proofs.Placing.{SoFar}
use Rattle.c_types.specs.refinement.Views.{table_of, types_in}
use Rattle.c_types.proofs.layout.lay_out.Given as goal

abbrev pub invariant-loop-member : goal.invariant-loop-member
invariant-loop-member l =
    SoFar (table_of l.definitions) (types_in l.member-items) l.member-index l.end l.align l.offsets.items
