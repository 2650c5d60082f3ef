use Rattle.std.proofs.Common.{◌≡◌, ◌++◌, drop}
use Rattle.ms_text_names.specs.refinement.Keys.{codes_of}
use Rattle.ms_text_names.proofs.sigs.add_codes.Given as goal

abbrev pub invariant-loop-ty : goal.invariant-loop-ty
invariant-loop-ty l = l.key.items ++ codes_of (drop l.ty-index l.types) ≡ l.initial.key.items ++ codes_of l.types
