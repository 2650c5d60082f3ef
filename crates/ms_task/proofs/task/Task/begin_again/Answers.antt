use Rattle.std.proofs.Common.{◌-◌, ap, drop, ◌∙◌}
use Rattle.ms_task.specs.refinement.View.{frame_of}
use Rattle.ms_task.proofs.Branches.{branch_within}
use Rattle.ms_task.proofs.Repeats.{enough, repeats}
use Rattle.ms_task.proofs.task.Task.begin_again.Goals as goal

pub cut-requires : goal.cut-requires
cut-requires c =
    let t = c.args.self.now in
    (branch_within c.args.label (frame_of t) t.operands c.args.funcs.now t.function t.frames.0 t.marks c.requires.branches).0

pub overflow_sub-len : goal.overflow_sub-len
overflow_sub-len c =
    let t = c.args.self.now in
    let there = c.requires.there in
    rw c.len.ensures (enough c.args.label c.args.again.height there.0 there.1 c.args.again.body t.function there.2 t.frames.1 t.operands t.operands c.args.funcs.now t.frames.0 t.marks c.cut.new.self there.3 c.requires.branches c.cut.ensures (c.cut.ensures ∙ there.4) there.5)

pub returns-clause-repeats : goal.returns-clause-repeats
returns-clause-repeats c =
    let t = c.args.self.now in
    let there = c.requires.there in
    repeats c.args.label c.args.again.height there.0 there.1 c.args.again.body t.function there.2 t.frames.1 t.operands c.cut-2.new.self c.args.funcs.now t.frames.0 t.marks c.cut.new.self there.3 c.requires.branches c.cut.ensures (c.cut.ensures ∙ there.4) there.5 (c.cut-2.ensures ∙ ap (λ n. drop (n - c.args.again.height) t.operands) c.len.ensures)
