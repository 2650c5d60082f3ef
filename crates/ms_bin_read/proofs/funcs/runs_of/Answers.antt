use Rattle.std.proofs.Common.{◌∙◌}
use Rattle.std.proofs.lemmas.Result.{err_from_is_err_and}
use Rattle.ms_bin_grammar.specs.Bounds.{usual}
use Rattle.ms_bin_grammar.specs.Module.{more_locals}
use Rattle.ms_bin_read.proofs.Loops.{repeat_done, repeat_fails, repeat_goes}
use Rattle.ms_bin_read.proofs.funcs.runs_of.Goals as goal

pub returns-in_err-more_locals_of : goal.returns-in_err-more_locals_of
returns-in_err-more_locals_of c =
    let p = err_from_is_err_and c.from_residual.result c.from_residual.ensures.1 in
    let l = c.loop in
    rw (p.1, p.2) (repeat_fails (more_locals usual) c.args.count l.counter l.locals l.c.end l.c.left _ l.invariant.so_far c.in_err-more_locals_of.field-0.0 c.loop-test.true c.in_err-more_locals_of.ensures.read)

pub loop-preserved : goal.loop-preserved
loop-preserved c =
    let l = c.loop in
    let e = c.in_ok-more_locals_of.ensures.read in
    record {
      so_far = rw e.1 (repeat_goes (more_locals usual) c.args.count l.counter l.locals l.c.end l.c.left _ l.invariant.so_far c.more_locals_of.new.locals c.more_locals_of.new.c.left c.loop-test.true e.0);
      same_end = e.1 ∙ l.invariant.same_end;
      few = c.in_ok-more_locals_of.ensures.few;
    }

pub returns : goal.returns
returns c =
    let l = c.loop in
    (repeat_done (more_locals usual) c.args.count l.counter l.locals l.c.end l.c.left _ l.invariant.so_far c.loop-test.false, l.invariant.same_end)
