use Rattle.std.proofs.Common.{subst}
use Rattle.ms_machine.specs.refinement.Doing.{DoesOutcome}
use Rattle.ms_machine.specs.Step.{Outcome}
use Rattle.ms_task.specs.refinement.View.{at_next, thread_of}
use Rattle.ms_machine.proofs.Asking.{call_asks}
use Rattle.ms_machine.proofs.control.call.Goals as goal

pub returns-in-Some : goal.returns-in-Some
returns-in-Some g c =
    let s = c.args.store.now in
    let t = at_next s.funcs c.args.task.now c.args.next in
    subst (λ (o : Outcome). DoesOutcome o s (thread_of s.funcs c.args.task.now) s (thread_of s.funcs c.ask.new.task) c.ask.result)
    (call_asks s t c.args.x c.func_address-address.result c.in-Some.host c.func_address-address.ensures c.in-Some.ensures) (c.ask.ensures s)
