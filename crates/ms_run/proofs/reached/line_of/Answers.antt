use Rattle.std.proofs.Common.{◌≡◌, string_bytes}
use Rattle.ms_run.specs.Lines.{reach_line}
use Rattle.ms_run.specs.Reached.{TellsReach}
use Rattle.ms_run.proofs.Reaching.{if_ok, line_tells, task_fits}
use Rattle.ms_run.proofs.reached.line_of.Goals as goal

pub reach-requires-clause-task_fits : goal.reach-requires-clause-task_fits
reach-requires-clause-task_fits g c = task_fits c.args.crew.now.crew c.store.result.now c.args.task c.task.result.now c.store.ensures c.requires.ready c.task.ensures

pub returns : goal.returns
returns g c =
    let crew = c.args.crew.now.crew in
    let it = c.in_ok-reached.reached in
    if_ok (λ t. string_bytes t ≡ reach_line c.args.number it.segments it.bytes) (λ t. TellsReach crew c.args.number c.args.task c.args.set.now (string_bytes t)) c.reach_line.result
    (λ t line. line_tells crew c.store.result.now c.args.number c.args.task c.task.result.now c.args.set.now it.segments it.bytes (string_bytes t) c.store.ensures c.task.ensures c.in_ok-reached.ensures.segments c.in_ok-reached.ensures.bytes line)
    c.reach_line.ensures
