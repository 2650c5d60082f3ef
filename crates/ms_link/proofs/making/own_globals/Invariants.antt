use Rattle.std.proofs.Common.{◌≡◌, ◌++◌, drop, map}
use Rattle.ms_machine.specs.Linked.{own_global, values_at}
use Rattle.ms_link.proofs.making.own_globals.Given as goal

abbrev pub invariant-loop-global : goal.invariant-loop-global
invariant-loop-global l =
    l.made.items ++ map (own_global (values_at l.all l.imported)) (drop l.global-index l.globals) ≡ map (own_global (values_at l.all l.imported)) l.globals
