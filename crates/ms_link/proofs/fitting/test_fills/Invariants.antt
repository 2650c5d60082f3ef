use Rattle.std.proofs.Common.{◌≡◌, ◌+◌, drop}
use Rattle.ms_machine.specs.Linked.{fills_fit, values_at}
use Rattle.ms_link.proofs.fitting.test_fills.Given as goal

abbrev pub invariant-loop-i : goal.invariant-loop-i
invariant-loop-i l =
    fills_fit l.number (values_at l.globals l.addresses) l.size (l.first + l.i) (drop l.i l.fills) ≡ fills_fit l.number (values_at l.globals l.addresses) l.size l.first l.fills
