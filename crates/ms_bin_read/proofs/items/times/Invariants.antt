use Rattle.std.proofs.Common.{◌≡◌, ◌-◌}
use Rattle.ms_bytes.specs.Repetition.{times}
use Rattle.ms_bin_read.proofs.Loops.{with_front}
use Rattle.ms_bin_read.proofs.items.times.Given as goal

abbrev pub invariant-loop : goal.invariant-loop
invariant-loop g l = record {
  so_far : with_front l.items ((times (l.count - l.counter) g.T.Item.format).read l.c.end l.c.left) ≡ (times l.count g.T.Item.format).read l.fn.c.end l.fn.c.left;
  same_end : l.c.end ≡ l.fn.c.end;
}
