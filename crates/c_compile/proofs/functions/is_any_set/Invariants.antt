use Rattle.std.proofs.Common.{◌≡◌, drop}
use Rattle.std.specs.List.{list_any}
use Rattle.c_compile.proofs.functions.is_any_set.Given as goal

abbrev pub invariant-loop-flag : goal.invariant-loop-flag
invariant-loop-flag l = list_any (λ flag. flag) (drop l.flag-index l.flags) ≡ list_any (λ flag. flag) l.flags
