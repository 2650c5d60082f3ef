use Rattle.std.proofs.Common.{drop}
use Rattle.ms_task.specs.Thread.{sequence}
use Rattle.ms_task.specs.refinement.View.{outer_of}
use Rattle.ms_task.proofs.Items.{dos_are_nil}
use Rattle.ms_task.proofs.Places.{marks_are_nil, nothing_left}
use Rattle.ms_task.proofs.task.Task.has_ended.Goals as goal

pub returns-then-is_empty : goal.returns-then-is_empty
returns-then-is_empty c =
    let t = c.args.self.now in
    let funcs = c.args.funcs.now in
    let is = drop t.place (sequence funcs t.function t.sequence) in
    (λ h. nothing_left is funcs t.function t.frames.0 t.marks (c.is_empty.ensures.0 c.if-is_empty.true) (c.is_at_end.ensures.0 h), λ e. c.is_at_end.ensures.1 (dos_are_nil is (outer_of funcs t) e))

pub returns-else-is_empty : goal.returns-else-is_empty
returns-else-is_empty c =
    let t = c.args.self.now in
    let funcs = c.args.funcs.now in
    let is = drop t.place (sequence funcs t.function t.sequence) in
    (λ h. let no = c.if-is_empty.false in cc, λ e. c.is_empty.ensures.1 (marks_are_nil is funcs t.function t.frames.0 t.marks e))
