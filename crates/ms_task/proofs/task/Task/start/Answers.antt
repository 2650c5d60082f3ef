use Rattle.std.proofs.Common.{ap, ◌∙◌}
use Rattle.std.proofs.lemmas.Option.{get_or_from_slice_get}
use Rattle.ms_task.specs.Control.{exited, started}
use Rattle.ms_task.proofs.Calls.{start_is}
use Rattle.ms_task.proofs.task.Task.start.Goals as goal

pub returns : goal.returns
returns c = λ g found.
    let funcs = c.args.funcs.now in
    let f = c.args.address in
    let func = c.index-funcs-address.result in
    let pushed = c.in_ok-push_call.ensures.ok in
    c.exit_ended.ensures.thread
    ∙ ap exited (start_is funcs f func c.new-operands.result c.new-frames.result c.open.new.self c.push_call.new.self c.new-marks.result c.in_ok-base.base pushed.0 c.result.result c.new-frames.ensures c.in_ok-base.ensures.locals c.new-marks.ensures pushed.1 c.in_ok-base.ensures.base c.result.ensures c.new-operands.ensures
    ∙ ap (started funcs f) (c.index-funcs-address.is ∙ get_or_from_slice_get funcs f g func found))
