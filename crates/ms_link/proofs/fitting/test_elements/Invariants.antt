use Rattle.std.proofs.Common.{◌≡◌, drop}
use Rattle.ms_machine.specs.Linked.{elements_fit, values_at}
use Rattle.ms_link.proofs.fitting.test_elements.Given as goal

abbrev pub invariant-loop-item : goal.invariant-loop-item
invariant-loop-item l =
    elements_fit l.number (values_at l.globals l.addresses) l.size l.item (drop l.item l.elements) ≡ elements_fit l.number (values_at l.globals l.addresses) l.size 0 l.elements
