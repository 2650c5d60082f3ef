use Rattle.std.proofs.Common.{Option, Some, ap, sym, ◌∙◌}
use Rattle.ms_machine.specs.Store.{Store}
use Rattle.ms_task.specs.refinement.View.{thread_of}
use Rattle.ms_tasks.specs.States.{in_crew}
use Rattle.ms_tasks.specs.refinement.Steppers.{by_stop}
use Rattle.ms_tasks.specs.declared.ran.Stop.{Stop}
use Rattle.ms_tasks.specs.declared.state.TaskState.{TaskState}
use Rattle.ms_tasks.proofs.crew.Crew.state.Goals as goal

pub returns : goal.returns
returns g c =
    let n = c.args.n in
    let it = c.args.self.now in
    c.by_stop.ensures
    ∙ (ap (λ (o : Option Stop). by_stop n o c.by_thread-stands.result) c.trapped.ensures
    ∙ ap (λ (x : TaskState). by_stop n it.trapped x)
    (c.by_thread-stands.ensures
    ∙ (ap (λ (s : Store). in_crew (Some (thread_of s.funcs c.task-task.result.now))) c.store-store.ensures
    ∙ ap in_crew (sym c.task-task.ensures))))
