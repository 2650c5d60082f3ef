use Rattle.std.proofs.Common.{◌≡◌, ◌++◌, length}
use Rattle.std.specs.Vec.Iter.{into_iter_items, into_iter_len}
use Rattle.ms_link.proofs.storing.instances_of.Given as goal

abbrev pub invariant-loop-k : goal.invariant-loop-k
invariant-loop-k l = (l.instances.items ++ into_iter_items l.k-iterator ≡ l.fn.known.items)
    × (into_iter_len l.k-iterator ≡ length (into_iter_items l.k-iterator))
