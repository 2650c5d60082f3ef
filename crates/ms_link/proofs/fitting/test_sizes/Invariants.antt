use Rattle.std.proofs.Common.{◌≡◌, drop}
use Rattle.ms_machine.specs.Linked.{sizes_fit}
use Rattle.ms_link.proofs.fitting.test_sizes.Given as goal

abbrev pub invariant-loop-l : goal.invariant-loop-l
invariant-loop-l l = sizes_fit l.number l.item l.most (drop l.l-index l.limits) ≡ sizes_fit l.number l.item l.most l.limits
