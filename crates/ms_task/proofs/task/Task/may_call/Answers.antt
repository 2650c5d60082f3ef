use Rattle.std.proofs.Common.{ap, sym, nat_lt, ◌∙◌}
use Rattle.ms_task.specs.Control.{deepest}
use Rattle.ms_task.proofs.Calls.{depth_of_rest}
use Rattle.ms_task.proofs.task.Task.may_call.Goals as goal

pub returns : goal.returns
returns c = λ funcs next.
    let t = c.args.self.now in
    ap (λ n. nat_lt n deepest) (c.depth.ensures ∙ sym (depth_of_rest funcs t.function t.sequence next t.frames.0 t.marks))
