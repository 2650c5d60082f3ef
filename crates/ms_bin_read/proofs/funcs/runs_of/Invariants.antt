use Rattle.std.proofs.Common.{◌≡◌, ◌-◌, ◌≤◌, [], length}
use Rattle.ms_bytes.specs.Repetition.{repeat}
use Rattle.ms_bin_grammar.specs.Bounds.{usual}
use Rattle.ms_bin_grammar.specs.Module.{more_locals}
use Rattle.ms_bin_read.proofs.funcs.runs_of.Given as goal

abbrev pub invariant-loop : goal.invariant-loop
invariant-loop l = record {
  so_far : (repeat (more_locals usual) (l.count - l.counter) l.locals).read l.c.end l.c.left ≡ (repeat (more_locals usual) l.count []).read l.fn.c.end l.fn.c.left;
  same_end : l.c.end ≡ l.fn.c.end;
  few : length l.locals ≤ usual.locals;
}
