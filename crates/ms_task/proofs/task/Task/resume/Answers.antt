use Rattle.std.proofs.Common.{◌≢◌, [], ap, drop, sym, ◌∙◌, ◌++◌, arith}
use Rattle.ms_task.specs.Thread.{dos, sequence}
use Rattle.ms_task.specs.refinement.View.{frame_of, outer_of}
use Rattle.ms_task.proofs.Items.{begins_past, dos_are_nil, exit_begins}
use Rattle.ms_task.proofs.Places.{drop_is_nil}
use Rattle.ms_task.proofs.task.Task.resume.Goals as goal

pub returns-clause-thread : goal.returns-clause-thread
returns-clause-thread c =
    let t = c.loop-code.self in
    let funcs = c.args.funcs.now in
    let code = c.loop-code.code.now in
    let is = drop t.place (sequence funcs t.function t.sequence) in
    let within = c.loop-code-test.false in
    let more : is ≢ [] = λ e. let past = drop_is_nil t.place code (ap (drop t.place) c.loop-code.invariant.code ∙ e) in absurd (omega (arith, past, within)) in
    sym (exit_begins (frame_of t) t.operands (dos is ++ outer_of funcs t) (begins_past is (outer_of funcs t) more)) ∙ c.loop-code.invariant.exits

pub returns-clause-code : goal.returns-clause-code
returns-clause-code c =
    let t = c.loop-code.self in
    let funcs = c.args.funcs.now in
    let code = c.loop-code.code.now in
    let is = drop t.place (sequence funcs t.function t.sequence) in
    let within = c.loop-code-test.false in
    let more : is ≢ [] = λ e. let past = drop_is_nil t.place code (ap (drop t.place) c.loop-code.invariant.code ∙ e) in absurd (omega (arith, past, within)) in
    (c.loop-code.invariant.code, within, λ e. more (dos_are_nil is (outer_of funcs t) e))
