use Rattle.std.proofs.Common.{◌≡◌, drop, max}
use Rattle.c_code.specs.Uses.{waits_all}
use Rattle.c_place.specs.refinement.Lists.{exprs_in}
use Rattle.c_compile.proofs.waits.+waiting.Given as goal

abbrev pub invariant-of_exprs-loop-e : goal.invariant-of_exprs-loop-e
invariant-of_exprs-loop-e l = max l.most (waits_all (exprs_in (drop l.e-index l.es))) ≡ waits_all (exprs_in l.es)
