use Rattle.std.proofs.Common.{◌≡◌, ◌++◌, drop, map}
use Rattle.ms_machine.specs.Writing.{zeroed}
use Rattle.ms_link.proofs.making.add_memories.Given as goal

abbrev pub invariant-loop-l : goal.invariant-loop-l
invariant-loop-l l = l.all.items ++ map zeroed (drop l.l-index l.limits) ≡ l.initial.all.items ++ map zeroed l.limits
