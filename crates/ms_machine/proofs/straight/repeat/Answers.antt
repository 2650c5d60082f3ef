use Rattle.std.proofs.Common.{◌≢◌, List, ap, subst, sym, ◌∙◌}
use Rattle.ms_module.specs.declared.instr.Instr.{Instr}
use Rattle.ms_task.specs.Control as control
use Rattle.ms_task.specs.Control.{br_if_on, branch}
use Rattle.ms_task.specs.refinement.View.{at_next, frame_of, outer_of}
use Rattle.ms_task.specs.declared.func.FuncInst.{FuncInst}
use Rattle.ms_machine.specs.Step.{act, moved}
use Rattle.ms_machine.specs.refinement.Doing.{Can}
use Rattle.ms_machine.specs.Store.{Store}
use Rattle.ms_machine.proofs.Branches.{br_can, branch_from}
use Rattle.ms_machine.proofs.StraightLine.{repeated}
use Rattle.ms_machine.proofs.straight.repeat.Goals as goal

pub repeat-requires : goal.repeat-requires
repeat-requires g c =
    let s = c.args.store.now in
    let t = c.args.task.now in
    let funcs = c.deref.ensures.value ∙ ap (λ (x : Store). x.funcs) c.store.view_is in
    let here = subst (λ (i : Instr). Can i c.args.next s t) c.in-Br.is c.requires in
    subst (λ (fs : List FuncInst). branch c.in-Br.label (frame_of t) t.operands (outer_of fs t) ≢ control.Stuck) (sym funcs) (br_can s t c.in-Br.label c.args.next here)

pub returns-in-Br : goal.returns-in-Br
returns-in-Br g c =
    let s = c.args.store.now in
    let t = c.args.task.now in
    let funcs = c.deref.ensures.value ∙ ap (λ (x : Store). x.funcs) c.store.view_is in
    repeated s t c.repeat.new.self c.args.instr.now c.args.next (λ fs. branch c.in-Br.label (frame_of t) t.operands (outer_of fs t)) (ap (λ (i : Instr). act s i (at_next s.funcs t c.args.next)) c.in-Br.is ∙ ap (moved s) (branch_from s.funcs t c.in-Br.label c.args.next)) c.deref.result.now c.repeat.result funcs c.repeat.ensures.repeats c.repeat.ensures.small

pub returns-in-BrIf : goal.returns-in-BrIf
returns-in-BrIf g c =
    let s = c.args.store.now in
    let t = c.args.task.now in
    let funcs = c.deref-in-BrIf.ensures.value ∙ ap (λ (x : Store). x.funcs) c.store.view_is in
    repeated s t c.repeat_if.new.self c.args.instr.now c.args.next (λ fs. br_if_on c.in-BrIf.label (at_next fs t c.args.next)) (ap (λ (i : Instr). act s i (at_next s.funcs t c.args.next)) c.in-BrIf.is) c.deref-in-BrIf.result.now c.repeat_if.result funcs c.repeat_if.ensures.repeats c.repeat_if.ensures.small
