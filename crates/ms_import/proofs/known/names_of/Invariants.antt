use Rattle.std.proofs.Common.{◌≡◌, ◌++◌, drop, map}
use Rattle.ms_import.proofs.known.names_of.Given as goal
use Rattle.ms_module.specs.declared.module.Export.{Export}

abbrev pub invariant-loop-export : goal.invariant-loop-export
invariant-loop-export l = l.names ++ map (λ (e : Export). e.name) (drop l.export-index l.exports) ≡ map (λ (e : Export). e.name) l.exports
