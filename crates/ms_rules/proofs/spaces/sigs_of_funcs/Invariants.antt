use Rattle.std.proofs.Common.{◌≡◌, ◌++◌, drop}
use Rattle.std.specs.Prelude.{map}
use Rattle.ms_rules.specs.Context.{sigs_of_funcs}
use Rattle.ms_rules.proofs.spaces.sigs_of_funcs.Given as goal

abbrev pub invariant-loop-func : goal.invariant-loop-func
invariant-loop-func l = l.sigs.items ++ map (λ f. f.sig) (drop l.func-index l.func-items) ≡ sigs_of_funcs l.module
