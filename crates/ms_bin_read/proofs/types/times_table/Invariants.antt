use Rattle.std.proofs.Common.{◌≡◌, ◌-◌}
use Rattle.ms_bytes.specs.Repetition.{times}
use Rattle.ms_bin_grammar.specs.Types.{table_type}
use Rattle.ms_bin_read.proofs.Loops.{with_front}
use Rattle.ms_bin_read.proofs.types.times_table.Given as goal

abbrev pub invariant-loop : goal.invariant-loop
invariant-loop l = record {
  so_far : with_front l.tables ((times (l.count - l.counter) table_type).read l.c.end l.c.left) ≡ (times l.count table_type).read l.fn.c.end l.fn.c.left;
  same_end : l.c.end ≡ l.fn.c.end;
}
