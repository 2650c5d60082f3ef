use Rattle.std.proofs.Common.{◌≡◌, ◌++◌, drop}
use Rattle.std.specs.Prelude.{map}
use Rattle.ms_rules.specs.Context.{all_globals}
use Rattle.ms_rules.proofs.spaces.all_globals.Given as goal

abbrev pub invariant-loop-global : goal.invariant-loop-global
invariant-loop-global l = l.globals.items ++ map (λ g. g.ty) (drop l.global-index l.global-items) ≡ all_globals l.module
