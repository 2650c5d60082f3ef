use Rattle.std.proofs.Common.{◌≡◌, ◌+◌, ◌≤◌, drop, length}
use Rattle.std.specs.List.{filter}
use Rattle.c_compile.proofs.unit.count_set.Given as goal

abbrev pub invariant-loop-flag : goal.invariant-loop-flag
invariant-loop-flag l =
    (l.count ≤ l.flag-index) × (l.count + length (filter (λ flag. flag) (drop l.flag-index l.flags)) ≡ length (filter (λ flag. flag) l.flags))
