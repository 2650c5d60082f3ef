use Rattle.std.proofs.Common.{◌≡◌, ◌++◌, drop}
use Rattle.ms_machine.specs.Linked.{globals_in}
use Rattle.ms_link.proofs.making.globals_in.Given as goal

abbrev pub invariant-loop-e : goal.invariant-loop-e
invariant-loop-e l = l.all.items ++ globals_in (drop l.e-index l.externs) ≡ globals_in l.externs
