use Rattle.std.proofs.Common.{◌≡◌, ◌++◌, drop}
use Rattle.ms_machine.specs.Linked.{host_funcs}
use Rattle.ms_link.proofs.hosting.push_hosts.Given as goal

abbrev pub invariant-loop-e : goal.invariant-loop-e
invariant-loop-e l = l.funcs.items ++ host_funcs l.instance l.x (drop l.e-index l.externs) ≡ l.initial.funcs.items ++ host_funcs l.instance 0 l.externs
