use Rattle.std.proofs.Common.{◌≡◌, ◌+◌, drop, length, map, slice_get}
use Rattle.ms_machine.specs.Linked.{entry_in}
use Rattle.ms_machine.specs.Writing.{with_entries}
use Rattle.ms_link.proofs.putting.put_entries.Given as goal

abbrev pub invariant-loop-i : goal.invariant-loop-i
invariant-loop-i l =
    (with_entries l.table (l.at + l.i) (map (λ f. entry_in l.funcs (slice_get l.addresses f)) (drop l.i l.indices)) ≡ with_entries l.initial.table l.at (map (λ f. entry_in l.funcs (slice_get l.addresses f)) l.indices))
    × (length l.table.entries ≡ length l.initial.table.entries)
