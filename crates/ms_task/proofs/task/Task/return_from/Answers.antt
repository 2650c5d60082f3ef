use Rattle.std.proofs.Common.{ap, sym, ◌∙◌}
use Rattle.ms_task.specs.Control.{branch}
use Rattle.ms_task.specs.refinement.View.{frame_of, outer_of}
use Rattle.ms_task.proofs.Branches.{return_on-branch}
use Rattle.ms_task.proofs.task.Task.return_from.Goals as goal

pub branch-self-requires : goal.branch-self-requires
branch-self-requires c = λ e.
    let t = c.args.self.now in
    c.requires (return_on-branch (frame_of t) t.operands c.args.funcs.now t.function t.frames.0 t.marks ∙ ap (λ l. branch l (frame_of t) t.operands (outer_of c.args.funcs.now t)) (sym c.labels-label.ensures) ∙ e)

pub returns : goal.returns
returns c =
    let t = c.args.self.now in
    c.branch-self.ensures
    ∙ ap (λ l. branch l (frame_of t) t.operands (outer_of c.args.funcs.now t)) c.labels-label.ensures
    ∙ sym (return_on-branch (frame_of t) t.operands c.args.funcs.now t.function t.frames.0 t.marks)
