use Rattle.std.proofs.Common.{◌≡◌, ◌-◌, length}
use Rattle.ms_bytes.specs.Runs.{run_at}
use Rattle.ms_bin_grammar.specs.Faults.{malformed}
use Rattle.ms_bin_read.proofs.steps.run.Given as goal

abbrev pub invariant-loop : goal.invariant-loop
invariant-loop g l = record {
  so_far : run_at malformed g.S.Steps.going g.S.Steps.step (l.most - l.counter) l.state l.c.end l.c.left
      ≡ run_at malformed g.S.Steps.going g.S.Steps.step (length l.fn.c.left) l.fn.first l.fn.c.end l.fn.c.left;
  same_end : l.c.end ≡ l.fn.c.end;
}
