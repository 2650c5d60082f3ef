use Rattle.std.proofs.Common.{◌≡◌, drop}
use Rattle.ms_machine.specs.Linked.{table_in}
use Rattle.ms_link.proofs.making.table_in.Given as goal

abbrev pub invariant-loop-e : goal.invariant-loop-e
invariant-loop-e l = table_in (drop l.e-index l.externs) ≡ table_in l.externs
