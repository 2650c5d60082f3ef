use Rattle.std.proofs.Common.{ap}
use Rattle.ms_task.specs.Thread.{thread}
use Rattle.ms_task.specs.refinement.View.{at_next, frame_of, thread_of}
use Rattle.ms_machine.proofs.Memories.{linear_does, linear_fails}
use Rattle.ms_machine.proofs.memory.linear.Goals as goal

pub returns-in-Err-clause-does : goal.returns-in-Err-clause-does
returns-in-Err-clause-does g c =
    let s = c.args.store.now in
    let old = c.args.task.now in
    rw c.of_fault.ensures (linear_fails _ s c.args.i c.memory_address-address.result c.index_mut-memory.result.now c.linear.new.memory (at_next s.funcs old c.args.next) (λ funcs. thread_of funcs old) (λ funcs. thread (frame_of old) c.linear.new.operands (thread_of funcs old).work) c.linear.new.operands c.in-Err.fault c.store.view_is c.memory_address-address.ensures c.requires c.index_mut-memory.ensures.value c.in-Err.ensures (λ funcs same. ap (λ vs. thread (frame_of old) vs (thread_of funcs old).work) same))

pub returns-clause-does : goal.returns-clause-does
returns-clause-does g c =
    let s = c.args.store.now in
    linear_does _ s c.args.i c.memory_address-address.result c.index_mut-memory.result.now c.linear.new.memory (λ funcs. at_next funcs c.args.task.now c.args.next) (λ funcs. thread_of funcs c.go_to.new.self) c.linear.new.operands c.store.view_is c.memory_address-address.ensures c.requires c.index_mut-memory.ensures.value c.in-Ok.ensures c.go_to.ensures.thread
