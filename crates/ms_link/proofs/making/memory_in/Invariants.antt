use Rattle.std.proofs.Common.{◌≡◌, drop}
use Rattle.ms_machine.specs.Linked.{memory_in}
use Rattle.ms_link.proofs.making.memory_in.Given as goal

abbrev pub invariant-loop-e : goal.invariant-loop-e
invariant-loop-e l = memory_in (drop l.e-index l.externs) ≡ memory_in l.externs
