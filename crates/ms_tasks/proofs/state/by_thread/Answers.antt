use Rattle.ms_task.specs.refinement.View.{thread_of}
use Rattle.ms_tasks.proofs.States.{ended_is, unended_is}
use Rattle.std.proofs.Common.{ap, ◌∙◌}
use Rattle.std.proofs.lemmas.Bool.{iff_false}
use Rattle.ms_tasks.specs.declared.state.TaskState.TheVariants.{Ended}
use Rattle.ms_tasks.proofs.state.by_thread.Goals as goal

pub returns-then-has_ended : goal.returns-then-has_ended
returns-then-has_ended g c =
    let t = thread_of c.args.store.now.funcs c.args.task.now in
    ap Ended c.last.ensures ∙ ended_is t.work t.operands (c.has_ended.ensures.0 c.if-has_ended.true)

pub returns : goal.returns
returns g c =
    let t = thread_of c.args.store.now.funcs c.args.task.now in
    unended_is t.work t.operands (iff_false c.has_ended.ensures c.if-has_ended.false)
