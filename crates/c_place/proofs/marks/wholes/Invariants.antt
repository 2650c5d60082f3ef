use Rattle.std.proofs.Common.{◌≡◌, ◌++◌, drop, map}
use Rattle.c_types.specs.Types.{type_of}
use Rattle.c_typed.specs.Objects.{is_whole}
use Rattle.c_place.proofs.marks.wholes.Given as goal

abbrev pub invariant-loop-t : goal.invariant-loop-t
invariant-loop-t l = l.flags.items ++ map is_whole (map type_of (drop l.t-index l.types)) ≡ map is_whole (map type_of l.types)
