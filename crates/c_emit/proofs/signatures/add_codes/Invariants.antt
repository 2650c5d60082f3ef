use Rattle.std.proofs.Common.{◌≡◌, ◌++◌, drop, map}
use Rattle.c_emit.specs.refinement.Keys.{code}
use Rattle.c_emit.proofs.signatures.add_codes.Given as goal

abbrev pub invariant-loop-ty : goal.invariant-loop-ty
invariant-loop-ty l = l.key.items ++ map code (drop l.ty-index l.types) ≡ l.initial.key.items ++ map code l.types
