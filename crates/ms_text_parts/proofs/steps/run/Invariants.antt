use Rattle.std.proofs.Common.{◌≡◌, ◌-◌, length}
use Rattle.ms_bytes.specs.Runs.{run_at}
use Rattle.ms_text_grammar.specs.Faults.{bad}
use Rattle.ms_text_parts.proofs.steps.run.Given as goal

abbrev pub invariant-loop : goal.invariant-loop
invariant-loop g l = record {
  so_far : run_at (bad l.fn.c.source) (g.S.Steps.going l.fn.c.source) (g.S.Steps.step l.fn.c.source) (l.most - l.counter) l.state (length l.fn.c.source) l.c.left
      ≡ run_at (bad l.fn.c.source) (g.S.Steps.going l.fn.c.source) (g.S.Steps.step l.fn.c.source) (length l.fn.c.left) l.fn.first (length l.fn.c.source) l.fn.c.left;
  same_source : l.c.source ≡ l.fn.c.source;
}
