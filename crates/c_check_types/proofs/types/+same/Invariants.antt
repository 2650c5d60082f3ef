use Rattle.std.proofs.Common.{◌≡◌, drop, length}
use Rattle.c_types.specs.refinement.Views.{types_in}
use Rattle.c_check_types.specs.TypeEquality.{same_types, tys_of}
use Rattle.c_check_types.proofs.types.+same.Given as goal

abbrev pub invariant-same_types-loop-i : goal.invariant-same_types-loop-i
invariant-same_types-loop-i l =
    (length l.ts ≡ length l.us) × (same_types (tys_of (types_in (drop l.i l.ts))) (tys_of (types_in (drop l.i l.us))) ≡ same_types (tys_of (types_in l.ts)) (tys_of (types_in l.us)))
