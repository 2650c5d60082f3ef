use Rattle.std.proofs.Common.{◌≡◌, ◌++◌, ◌-◌}
use Rattle.ms_machine.specs.Linked.{numbers}
use Rattle.ms_link.proofs.making.push_numbers.Given as goal

abbrev pub invariant-loop-n : goal.invariant-loop-n
invariant-loop-n l = l.all.items ++ numbers l.n (l.end - l.n) ≡ l.initial.all.items ++ numbers l.first (l.end - l.first)
