use Rattle.std.proofs.Common.{◌≡◌, ◌++◌, length}
use Rattle.std.specs.Vec.Iter.{into_iter_items, into_iter_len}
use Rattle.ms_link.proofs.making.share_types.Given as goal

abbrev pub invariant-loop-sig : goal.invariant-loop-sig
invariant-loop-sig l = (l.types.items ++ into_iter_items l.sig-iterator ≡ l.fn.sigs.items)
    × (into_iter_len l.sig-iterator ≡ length (into_iter_items l.sig-iterator))
