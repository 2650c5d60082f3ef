use Rattle.std.proofs.Common.{◌≡◌, ◌∙◌}
use Rattle.std.proofs.lemmas.Result.{err_from_is_err_and}
use Rattle.ms_text_parts.specs.refinement.Readers.{FailsBy, fault_of}
use Rattle.ms_text_parts.proofs.StepLoop.{ends, fails, on, over}
use Rattle.ms_text_parts.proofs.steps.run.Goals as goal

pub returns-then-not-goes : goal.returns-then-not-goes
returns-then-not-goes g c =
    let l = c.loop in
    (ends g.S.Steps.going g.S.Steps.step c.args.c.now.source l.c.source l.invariant.same_source c.len-most.result l.counter l.state l.c.left _ l.invariant.so_far c.goes.result c.goes.ensures c.if-not-goes.true, l.invariant.same_source)

pub returns-in_err-state : goal.returns-in_err-state
returns-in_err-state g c =
    let l = c.loop in
    let p = err_from_is_err_and c.from_residual.result c.from_residual.ensures.1 in
    rw (p.1, p.2) (fails g.S.Steps.going g.S.Steps.step c.args.c.now.source l.c.source l.invariant.same_source c.len-most.result l.counter l.state l.c.left _ l.invariant.so_far c.goes.result (fault_of c.in_err-state.field-0.0) c.goes.ensures c.if-not-goes.false c.loop-test.true c.in_err-state.ensures)

pub loop-preserved : goal.loop-preserved
loop-preserved g c =
    let l = c.loop in
    let e = c.in_ok-state.ensures in
    record {
      so_far = on g.S.Steps.going g.S.Steps.step c.args.c.now.source l.c.source l.invariant.same_source c.len-most.result l.counter l.state l.c.left _ l.invariant.so_far c.goes.result c.in_ok-state.state c.step.new.c.left c.goes.ensures c.if-not-goes.false c.loop-test.true e.0;
      same_source = e.1 ∙ l.invariant.same_source;
    }

pub returns-then-goes : goal.returns-then-goes
returns-then-goes g c =
    let l = c.loop in
    rw c.bad.ensures (over g.S.Steps.going g.S.Steps.step c.args.c.now.source l.c.source l.invariant.same_source c.len-most.result l.counter l.state l.c.left _ l.invariant.so_far c.goes-2.result c.goes-2.ensures c.if-goes.true c.loop-test.false)

pub returns : goal.returns
returns g c =
    let l = c.loop in
    (ends g.S.Steps.going g.S.Steps.step c.args.c.now.source l.c.source l.invariant.same_source c.len-most.result l.counter l.state l.c.left _ l.invariant.so_far c.goes-2.result c.goes-2.ensures c.if-goes.false, l.invariant.same_source)
