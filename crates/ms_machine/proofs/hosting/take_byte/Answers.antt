use Rattle.std.proofs.Common.{None, true, refl, subst}
use Rattle.ms_host.specs.declared.host.Host.TheVariants as hosts
use Rattle.ms_outside.specs.refinement.Source.{GivesByte, Takes}
use Rattle.ms_machine.specs.Hosting.{host_on}
use Rattle.ms_machine.specs.Moves.{hosted}
use Rattle.ms_task.specs.Thread.{thread}
use Rattle.ms_task.specs.refinement.View.{thread_of}
use Rattle.ms_machine.proofs.Moving.{exit_does_step, take_gives, taken}
use Rattle.ms_machine.proofs.hosting.take_byte.Goals as goal

pub returns-clause-step : goal.returns-clause-step
returns-clause-step g c = λ held.
    let s = c.args.store.now in
    let t = thread_of s.funcs c.args.task.now in
    let before = g.I.Source.left c.args.input.now in
    let after = g.I.Source.left c.getchar.new.input in
    let take = c.in-Ok-getchar.ensures.take in
    let a = taken take.0 c.in-Ok-getchar.number take.1 in
    exit_does_step c.exit.result (λ got. hosted s t true (host_on hosts.Getchar got t.operands)) s t (thread t.frame c.set_top.new.self t.work) (thread_of s.funcs c.exit.new.task) true a.0 None before after held held
    (take_gives s t c.in-Ok-getchar.number a.0 c.push.new.self c.set_top.new.self a.1 c.in-Ok.ensures.ok c.set_top.ensures) (subst (λ x. Takes x before after × GivesByte x) a.2 (take.2, take.4)) refl c.exit.ensures
