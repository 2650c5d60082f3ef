use Rattle.std.proofs.Common.{◌≡◌, ◌++◌, ◌-◌, List, drop, take, length, refl, sym, ap, subst, ◌∙◌, arith}
use Rattle.std.proofs.lemmas.Result.{on_ok_weaker}
use Rattle.ms_linear.specs.declared.value.Value.{Value}
use Rattle.ms_machine.specs.refinement.Holding.{Each}
use Rattle.ms_reach.specs.Count.{is_among}
use Rattle.ms_reach.specs.refinement.Leading.{IsValueInside}
use Rattle.ms_reach.specs.refinement.OwnValues.{floor_in, lowest, task_values}
use Rattle.ms_reach.proofs.Gathering.{gather_is, gather_on}
use Rattle.ms_reach.proofs.OwnValues.{each_behind, locals_from}
use Rattle.ms_reach.proofs.own.add_task.Goals as goal

pub add_locals-requires-clause-inside : goal.add_locals-requires-clause-inside
add_locals-requires-clause-inside c =
    let inside = is_among c.args.set.now in
    let funcs = c.args.funcs.now in
    let t = c.args.task.now in
    let are = locals_from inside funcs t c.marks.result.now c.base.result c.cut_of-cut.result.locals (t.frames.0 ++ t.frames.1) c.marks.ensures c.base.ensures refl c.cut_of-cut.ensures.locals in
    subst (λ (xs : List Value). Each (IsValueInside c.args.live.now) xs) (sym are)
    (each_behind (IsValueInside c.args.live.now) (take (length t.operands - floor_in inside funcs t.marks) t.operands) (drop (lowest inside funcs (length t.frames.0) t.marks) (t.frames.0 ++ t.frames.1)) c.requires.inside)

pub returns : goal.returns
returns c =
    let inside = is_among c.args.set.now in
    let funcs = c.args.funcs.now in
    let t = c.args.task.now in
    let n = c.saturating_sub-n.result in
    let locals = drop c.cut_of-cut.result.locals (t.frames.0 ++ t.frames.1) in
    let are = locals_from inside funcs t c.marks.result.now c.base.result c.cut_of-cut.result.locals (t.frames.0 ++ t.frames.1) c.marks.ensures c.base.ensures refl c.cut_of-cut.ensures.locals in
    let floor_is = c.cut_of-cut.ensures.operands ∙ ap (floor_in inside funcs) c.marks.ensures in
    let n_is : n ≡ length t.operands - floor_in inside funcs t.marks = omega (arith, c.saturating_sub-n.ensures, c.len.ensures, floor_is) in
    let all = ap (λ k. take k t.operands ++ locals) n_is ∙ ap (λ xs. take (length t.operands - floor_in inside funcs t.marks) t.operands ++ xs) are in
    on_ok_weaker c.add_locals.result
    (λ gathers. gather_is c.args.live.now (take n t.operands ++ locals) (task_values inside funcs t) c.args.closing.now c.add_locals.new.closing all
    (gather_on c.args.live.now (take n t.operands) locals c.args.closing.now c.add_operands.new.closing c.add_locals.new.closing c.in_ok-add_operands.ensures gathers))
    c.add_locals.ensures
