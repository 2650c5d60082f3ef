use Rattle.std.proofs.Common.{◌≡◌}
use Rattle.c_check_types.specs.Scopes.{entity_of}
use Rattle.c_check_types.specs.refinement.Views.{scopes_of}
use Rattle.c_check_types.proofs.checker.entity_of.Given as goal

abbrev pub invariant-loop-scope : goal.invariant-loop-scope
invariant-loop-scope l = entity_of (scopes_of l.scope-iterator) l.name ≡ entity_of (scopes_of l.all) l.name
