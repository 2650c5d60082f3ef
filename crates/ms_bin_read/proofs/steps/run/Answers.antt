use Rattle.std.proofs.Common.{◌∙◌, sym}
use Rattle.std.proofs.lemmas.Result.{err_from_is_err_and}
use Rattle.ms_bytes.specs.RunLaws.{run_ends, run_on, run_over}
use Rattle.ms_bin_grammar.specs.Faults.{malformed}
use Rattle.ms_bin_read.proofs.StepLoop.{steps_fail}
use Rattle.ms_bin_read.proofs.steps.run.Goals as goal

pub returns-then-not-goes : goal.returns-then-not-goes
returns-then-not-goes g c =
    let l = c.loop in
    (run_ends malformed g.S.Steps.going g.S.Steps.step c.len-most.result l.counter l.state l.c.end l.c.left _ l.invariant.so_far (sym c.goes.ensures ∙ c.if-not-goes.true), l.invariant.same_end)

pub returns-in_err-step : goal.returns-in_err-step
returns-in_err-step g c =
    let l = c.loop in
    let p = err_from_is_err_and c.from_residual.result c.from_residual.ensures.1 in
    rw (p.1, p.2) (steps_fail g.S.Steps.going g.S.Steps.step c.len-most.result l.counter l.state l.c.end l.c.left _ l.invariant.so_far c.in_err-step.field-0.0 c.loop-test.true (sym c.goes.ensures ∙ c.if-not-goes.false) c.in_err-step.ensures)

pub loop-preserved : goal.loop-preserved
loop-preserved g c =
    let l = c.loop in
    let e = c.in_ok-step.ensures in
    record {
      so_far = rw e.1 (run_on malformed g.S.Steps.going g.S.Steps.step c.len-most.result l.counter l.state l.c.end l.c.left _ l.invariant.so_far c.step.new.self c.step.new.c.left c.loop-test.true (sym c.goes.ensures ∙ c.if-not-goes.false) e.0);
      same_end = e.1 ∙ l.invariant.same_end;
    }

pub returns-then-goes : goal.returns-then-goes
returns-then-goes g c =
    let l = c.loop in
    rw c.at.ensures.place (run_over malformed g.S.Steps.going g.S.Steps.step c.len-most.result l.counter l.state l.c.end l.c.left _ l.invariant.so_far c.loop-test.false (sym c.goes-2.ensures ∙ c.if-goes.true))

pub returns : goal.returns
returns g c =
    let l = c.loop in
    (run_ends malformed g.S.Steps.going g.S.Steps.step c.len-most.result l.counter l.state l.c.end l.c.left _ l.invariant.so_far (sym c.goes-2.ensures ∙ c.if-goes.false), l.invariant.same_end)
