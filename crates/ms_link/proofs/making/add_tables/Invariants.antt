use Rattle.std.proofs.Common.{◌≡◌, ◌++◌, drop, map}
use Rattle.ms_machine.specs.Writing.{empty_table}
use Rattle.ms_link.proofs.making.add_tables.Given as goal

abbrev pub invariant-loop-l : goal.invariant-loop-l
invariant-loop-l l = l.all.items ++ map empty_table (drop l.l-index l.limits) ≡ l.initial.all.items ++ map empty_table l.limits
