use Rattle.std.proofs.Common.{Option, subst}
use Rattle.ms_host.specs.declared.host.Host.{Host}
use Rattle.ms_machine.specs.refinement.Doing.{DoesOutcome}
use Rattle.ms_machine.specs.Step.{called, popped}
use Rattle.ms_task.specs.refinement.View.{at_next, thread_of}
use Rattle.ms_machine.proofs.control.call_at.Goals as goal

pub returns-in-Some : goal.returns-in-Some
returns-in-Some g c =
    let s = c.args.store.now in
    let t = at_next s.funcs c.args.task.now c.args.next in
    subst (λ (h : Option Host). DoesOutcome (called s c.args.address (popped t) h) s (thread_of s.funcs c.args.task.now) s (thread_of s.funcs c.ask_by_table.new.task) c.ask_by_table.result) c.in-Some.ensures (c.ask_by_table.ensures s)
