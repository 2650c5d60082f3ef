use Rattle.std.proofs.Common.{None}
use Rattle.ms_machine.proofs.Counting.{does_step_counts}
use Rattle.ms_machine.proofs.Moving.{does_step_fits, does_step_typed, move_unstuck}
use Rattle.ms_machine.proofs.SafeMoves.{does_step_sound}
use Rattle.ms_task.specs.refinement.View.{thread_of}
use Rattle.ms_machine.proofs.machine.step.Goals as goal

pub advance-requires-clause-can : goal.advance-requires-clause-can
advance-requires-clause-can g c =
    move_unstuck c.args.store.now (thread_of c.args.store.now.funcs c.args.task.now) None c.requires.store c.requires.task c.requires.going

pub returns-clause-outline : goal.returns-clause-outline
returns-clause-outline g c = λ well.
    let s = c.args.store.now in
    let s' = c.advance.new.store in
    (does_step_typed s s' (thread_of s.funcs c.args.task.now) (thread_of s'.funcs c.advance.new.task) c.advance.result (g.I.Source.left c.args.input.now) (g.I.Source.left c.advance.new.input) (g.O.Sink.held c.args.out.now) (g.O.Sink.held c.advance.new.out) c.advance.ensures.step well c.requires.store c.requires.task c.requires.going).0

pub returns-clause-task : goal.returns-clause-task
returns-clause-task g c = λ well.
    let s = c.args.store.now in
    let s' = c.advance.new.store in
    (does_step_typed s s' (thread_of s.funcs c.args.task.now) (thread_of s'.funcs c.advance.new.task) c.advance.result (g.I.Source.left c.args.input.now) (g.I.Source.left c.advance.new.input) (g.O.Sink.held c.args.out.now) (g.O.Sink.held c.advance.new.out) c.advance.ensures.step well c.requires.store c.requires.task c.requires.going).1

pub returns-clause-task_fits : goal.returns-clause-task_fits
returns-clause-task_fits g c = λ well.
    let s = c.args.store.now in
    let s' = c.advance.new.store in
    (does_step_fits s s' (thread_of s.funcs c.args.task.now) (thread_of s'.funcs c.advance.new.task) c.advance.result (g.I.Source.left c.args.input.now) (g.I.Source.left c.advance.new.input) (g.O.Sink.held c.args.out.now) (g.O.Sink.held c.advance.new.out) c.advance.ensures.step well c.requires.store_fits c.requires.task_fits).1

pub returns-clause-store_fits : goal.returns-clause-store_fits
returns-clause-store_fits g c = λ well.
    let s = c.args.store.now in
    let s' = c.advance.new.store in
    (does_step_fits s s' (thread_of s.funcs c.args.task.now) (thread_of s'.funcs c.advance.new.task) c.advance.result (g.I.Source.left c.args.input.now) (g.I.Source.left c.advance.new.input) (g.O.Sink.held c.args.out.now) (g.O.Sink.held c.advance.new.out) c.advance.ensures.step well c.requires.store_fits c.requires.task_fits).0

pub returns-clause-made : goal.returns-clause-made
returns-clause-made g c = λ well.
    let s = c.args.store.now in
    let s' = c.advance.new.store in
    (does_step_fits s s' (thread_of s.funcs c.args.task.now) (thread_of s'.funcs c.advance.new.task) c.advance.result (g.I.Source.left c.args.input.now) (g.I.Source.left c.advance.new.input) (g.O.Sink.held c.args.out.now) (g.O.Sink.held c.advance.new.out) c.advance.ensures.step well c.requires.store_fits c.requires.task_fits).2

pub returns-clause-others : goal.returns-clause-others
returns-clause-others g c = λ well.
    let s = c.args.store.now in
    let s' = c.advance.new.store in
    (does_step_fits s s' (thread_of s.funcs c.args.task.now) (thread_of s'.funcs c.advance.new.task) c.advance.result (g.I.Source.left c.args.input.now) (g.I.Source.left c.advance.new.input) (g.O.Sink.held c.args.out.now) (g.O.Sink.held c.advance.new.out) c.advance.ensures.step well c.requires.store_fits c.requires.task_fits).3

pub returns-clause-sound : goal.returns-clause-sound
returns-clause-sound g c = λ well events threads sound.
    let s = c.args.store.now in
    let s' = c.advance.new.store in
    does_step_sound s s' (thread_of s.funcs c.args.task.now) (thread_of s'.funcs c.advance.new.task) c.advance.result (g.I.Source.left c.args.input.now) (g.I.Source.left c.advance.new.input) (g.O.Sink.held c.args.out.now) (g.O.Sink.held c.advance.new.out) events threads c.advance.ensures.step well c.requires.store_fits c.requires.task_fits sound

pub returns-clause-never_stuck : goal.returns-clause-never_stuck
returns-clause-never_stuck g c = λ got. move_unstuck c.args.store.now (thread_of c.args.store.now.funcs c.args.task.now) got c.requires.store c.requires.task c.requires.going

pub returns-clause-accesses : goal.returns-clause-accesses
returns-clause-accesses g c = λ well.
    let s = c.args.store.now in
    let s' = c.advance.new.store in
    does_step_counts s s' (thread_of s.funcs c.args.task.now) (thread_of s'.funcs c.advance.new.task) c.advance.result (g.I.Source.left c.args.input.now) (g.I.Source.left c.advance.new.input) (g.O.Sink.held c.args.out.now) (g.O.Sink.held c.advance.new.out) c.advance.ensures.step well
