use Rattle.std.proofs.Common.{◌++◌, sym, ◌∙◌}
use Rattle.ms_task.specs.refinement.View.{frame_of, outer_of, rest_at}
use Rattle.ms_task.proofs.Branches.{br_if_taken, branch_rest}
use Rattle.ms_task.proofs.task.Task.branch_if.Goals as goal

pub branch-self-requires : goal.branch-self-requires
branch-self-requires c = λ e.
    let t = c.args.self.now in
    let funcs = c.args.funcs.now in
    c.requires (br_if_taken c.args.label c.in-I32.n (frame_of t) t.operands c.pop.new.self (rest_at funcs t.function t.sequence c.args.next ++ outer_of funcs t) c.in-I32.ensures c.if-n-ne0.true
    ∙ branch_rest c.args.label (frame_of t) c.pop.new.self funcs t.function t.sequence c.args.next t.frames.0 t.marks ∙ e)

pub returns-then-n-ne0 : goal.returns-then-n-ne0
returns-then-n-ne0 c =
    let t = c.args.self.now in
    let funcs = c.args.funcs.now in
    c.branch-self.ensures
    ∙ sym (br_if_taken c.args.label c.in-I32.n (frame_of t) t.operands c.pop.new.self (rest_at funcs t.function t.sequence c.args.next ++ outer_of funcs t) c.in-I32.ensures c.if-n-ne0.true
    ∙ branch_rest c.args.label (frame_of t) c.pop.new.self funcs t.function t.sequence c.args.next t.frames.0 t.marks)
