use Rattle.std.proofs.Common.{◌≡◌, ◌+◌, ◌≤◌, length}
use Rattle.ms_bytes.specs.Runs.{run_at}
use Rattle.ms_text_lex.specs.Fault.{broken}
use Rattle.ms_text_lex.specs.Strings.{piece_step, string_goes}
use Rattle.ms_text_lex.proofs.strings.take_pieces.Given as goal

abbrev pub invariant-loop : goal.invariant-loop
invariant-loop g l = record {
  so_far : run_at broken string_goes (piece_step g.S.Pieces.after) (length l.c.left) l.state l.fn.c.end l.c.left
      ≡ run_at broken string_goes (piece_step g.S.Pieces.after) (length l.fn.c.left) l.fn.first l.fn.c.end l.fn.c.left;
  same_end : l.c.end ≡ l.fn.c.end;
  few : length l.c.left + l.counter ≤ l.most;
}
