use Rattle.std.proofs.Common.{◌≡◌, ◌++◌, drop}
use Rattle.c_typed.specs.refinement.Views.{names_in}
use Rattle.c_check.proofs.unit.member_names.Given as goal

abbrev pub invariant-loop-names : goal.invariant-loop-names
invariant-loop-names l = names_in l.kept.items ++ drop l.names-index l.members ≡ l.members
