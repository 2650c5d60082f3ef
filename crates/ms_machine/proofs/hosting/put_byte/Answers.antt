use Rattle.std.proofs.Common.{None, Some, false, refl}
use Rattle.ms_host.specs.Host.{lowest_byte}
use Rattle.ms_host.specs.declared.host.Host.TheVariants as hosts
use Rattle.ms_machine.specs.Hosting.{host_on}
use Rattle.ms_machine.specs.Moves.{hosted}
use Rattle.ms_task.specs.Thread.{thread}
use Rattle.ms_task.specs.refinement.View.{thread_of}
use Rattle.ms_machine.proofs.Moving.{exit_does_step, put_gives}
use Rattle.ms_machine.proofs.hosting.put_byte.Goals as goal

pub returns-clause-step : goal.returns-clause-step
returns-clause-step g c = λ left.
    let s = c.args.store.now in
    let t = thread_of s.funcs c.args.task.now in
    exit_does_step c.exit.result (λ got. hosted s t false (host_on hosts.Putchar got t.operands)) s t (thread t.frame c.set_top.new.self t.work) (thread_of s.funcs c.exit.new.task) false None (Some (lowest_byte c.in-I32.n)) left left (g.O.Sink.held c.args.out.now) (g.O.Sink.held c.putchar.new.out)
    (put_gives s t c.in-I32.n c.in-Ok.byte c.set_top.new.self c.in-I32.ensures c.in-Ok.ensures.value c.set_top.ensures) refl c.in-Ok.ensures.held c.exit.ensures
