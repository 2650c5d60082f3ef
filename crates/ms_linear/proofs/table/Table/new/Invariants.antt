use Rattle.std.proofs.Common.{◌≡◌, None, replicate}
use Rattle.ms_linear.proofs.table.Table.new.Given as goal

abbrev pub invariant-loop : goal.invariant-loop
invariant-loop l = l.entries.items ≡ replicate l.counter None
