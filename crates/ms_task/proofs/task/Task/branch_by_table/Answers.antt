use Rattle.std.proofs.Common.{◌++◌, sym, ◌∙◌}
use Rattle.ms_task.specs.refinement.View.{frame_of, outer_of, rest_at}
use Rattle.ms_task.proofs.Branches.{table_at, branch_rest}
use Rattle.ms_task.proofs.task.Task.branch_by_table.Goals as goal

pub branch-self-requires : goal.branch-self-requires
branch-self-requires c = λ e.
    let t = c.args.self.now in
    let funcs = c.args.funcs.now in
    c.requires (table_at c.args.table.now.labels c.args.table.now.default c.label_at.result c.in-I32.operand (frame_of t) t.operands c.pop.new.self (rest_at funcs t.function t.sequence c.args.next ++ outer_of funcs t) c.in-I32.ensures c.label_at.ensures
    ∙ branch_rest c.label_at.result (frame_of t) c.pop.new.self funcs t.function t.sequence c.args.next t.frames.0 t.marks ∙ e)

pub returns : goal.returns
returns c =
    let t = c.args.self.now in
    let funcs = c.args.funcs.now in
    c.branch-self.ensures
    ∙ sym (table_at c.args.table.now.labels c.args.table.now.default c.label_at.result c.in-I32.operand (frame_of t) t.operands c.pop.new.self (rest_at funcs t.function t.sequence c.args.next ++ outer_of funcs t) c.in-I32.ensures c.label_at.ensures
    ∙ branch_rest c.label_at.result (frame_of t) c.pop.new.self funcs t.function t.sequence c.args.next t.frames.0 t.marks)
