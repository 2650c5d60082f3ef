use Rattle.std.proofs.Common.{◌≡◌, ◌++◌, drop, false, map}
use Rattle.c_types.specs.Types.{type_of}
use Rattle.c_code.specs.Functions.{held_as}
use Rattle.c_emit.proofs.signatures.held_in.Given as goal

abbrev pub invariant-loop-t : goal.invariant-loop-t
invariant-loop-t l = l.params ++ map (λ t. held_as false (type_of t)) (drop l.t-index l.ts) ≡ map (λ t. held_as false (type_of t)) l.ts
