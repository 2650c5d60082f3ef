use Rattle.std.proofs.Common.{◌≡◌, ◌++◌, drop}
use Rattle.ms_machine.specs.Linked.{funcs_in}
use Rattle.ms_link.proofs.hosting.funcs_in.Given as goal

abbrev pub invariant-loop-e : goal.invariant-loop-e
invariant-loop-e l = l.all.items ++ funcs_in l.n (drop l.e-index l.externs) ≡ funcs_in l.fn.address l.externs
