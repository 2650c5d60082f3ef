use Rattle.std.proofs.Common.{◌≡◌, drop}
use Rattle.c_types.specs.Layout.{deepest_from}
use Rattle.c_types.specs.refinement.Views.{table_of, types_in}
use Rattle.c_types.proofs.layout.deepest.Given as goal

abbrev pub invariant-loop-member : goal.invariant-loop-member
invariant-loop-member l =
    deepest_from (table_of l.definitions) l.depth (types_in (drop l.member-index l.members)) ≡ deepest_from (table_of l.definitions) 0 (types_in l.members)
