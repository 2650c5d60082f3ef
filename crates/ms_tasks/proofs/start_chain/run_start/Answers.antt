use Rattle.ms_machine.specs.Crews.{Start}
use Rattle.ms_task.specs.refinement.View.{thread_of}
use Rattle.ms_tasks.proofs.Stepping.{way_ends}
use Rattle.ms_tasks.proofs.start_chain.run_start.Goals as goal

pub returns-then-has_ended-clause-run : goal.returns-then-has_ended-clause-run
returns-then-has_ended-clause-run g c = λ next entries row.
    way_ends Start next entries c.args.most c.args.store.now (thread_of c.args.store.now.funcs c.args.task.now) c.args.log.now (g.I.Source.left c.args.input.now) (g.O.Sink.held c.args.out.now)
