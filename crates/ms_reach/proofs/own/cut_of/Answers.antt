use Rattle.std.proofs.Common.{◌+◌, drop, min, cond, sym, ap, ◌∙◌}
use Rattle.ms_reach.specs.Count.{is_among}
use Rattle.ms_reach.specs.refinement.OwnValues.{floor_in, lowest}
use Rattle.ms_reach.proofs.Marks.{drop_more}
use Rattle.ms_reach.proofs.own.cut_of.Goals as goal

pub loop-n-preserved-in_default : goal.loop-n-preserved-in_default
loop-n-preserved-in_default c =
    let inside = is_among c.args.set.now in
    let is = drop_more c.args.marks.now c.loop-n.n _ c.in_default.ensures in
    record {
      operands = sym (ap (floor_in inside c.args.funcs.now) is) ∙ c.loop-n.invariant.operands;
      locals = sym (ap (lowest inside c.args.funcs.now c.loop-n.low) is) ∙ c.loop-n.invariant.locals;
    }

pub returns-then-not-is_inside-clause-operands : goal.returns-then-not-is_inside-clause-operands
returns-then-not-is_inside-clause-operands c =
    let inside = is_among c.args.set.now in
    let is = drop_more c.args.marks.now c.loop-n.n _ c.in-Activation.ensures in
    ap (λ b. cond b (floor_in inside c.args.funcs.now (drop (c.loop-n.n + 1) c.args.marks.now)) c.in-Activation.height) c.if-not-is_inside.ensures
    ∙ (sym (ap (floor_in inside c.args.funcs.now) is) ∙ c.loop-n.invariant.operands)

pub returns-then-not-is_inside-clause-locals : goal.returns-then-not-is_inside-clause-locals
returns-then-not-is_inside-clause-locals c =
    let inside = is_among c.args.set.now in
    let is = drop_more c.args.marks.now c.loop-n.n _ c.in-Activation.ensures in
    ap (λ b. cond b (lowest inside c.args.funcs.now (min c.in-Activation.base c.loop-n.low) (drop (c.loop-n.n + 1) c.args.marks.now)) c.loop-n.low) c.if-not-is_inside.ensures
    ∙ (sym (ap (lowest inside c.args.funcs.now c.loop-n.low) is) ∙ c.loop-n.invariant.locals)

pub loop-n-preserved : goal.loop-n-preserved
loop-n-preserved c =
    let inside = is_among c.args.set.now in
    let is = drop_more c.args.marks.now c.loop-n.n _ c.in-Activation.ensures in
    let rest = drop (c.loop-n.n + 1) c.args.marks.now in
    record {
      operands =
          ap (λ b. cond b (floor_in inside c.args.funcs.now rest) c.in-Activation.height) c.if-not-is_inside.ensures
          ∙ (sym (ap (floor_in inside c.args.funcs.now) is) ∙ c.loop-n.invariant.operands);
      locals =
          ap (λ n. lowest inside c.args.funcs.now n rest) c.min-low.ensures
          ∙ (ap (λ b. cond b (lowest inside c.args.funcs.now (min c.in-Activation.base c.loop-n.low) rest) c.loop-n.low) c.if-not-is_inside.ensures
          ∙ (sym (ap (lowest inside c.args.funcs.now c.loop-n.low) is) ∙ c.loop-n.invariant.locals));
    }
