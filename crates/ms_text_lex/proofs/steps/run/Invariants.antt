use Rattle.std.proofs.Common.{◌≡◌, ◌-◌, length}
use Rattle.ms_bytes.specs.Runs.{run_at}
use Rattle.ms_text_lex.specs.Fault.{broken}
use Rattle.ms_text_lex.proofs.steps.run.Given as goal

abbrev pub invariant-loop : goal.invariant-loop
invariant-loop g l = record {
  so_far : run_at broken g.S.Steps.going (g.S.Steps.step l.fn.c.end) (l.most - l.counter) l.state l.fn.c.end l.c.left
      ≡ run_at broken g.S.Steps.going (g.S.Steps.step l.fn.c.end) (length l.fn.c.left) l.fn.first l.fn.c.end l.fn.c.left;
  same_end : l.c.end ≡ l.fn.c.end;
  fits : g.S.Steps.fits l.state l.c.left;
}
