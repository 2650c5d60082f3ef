use Rattle.std.proofs.Common.{◌≡◌, ◌<◌, ◌*◌, ◌^◌, suc, drop, length, slice_get, Some, None, true, arith}
use Rattle.ms_task.specs.declared.marks.Mark.TheVariants.{Label}
use Rattle.ms_task.proofs.Repeats.{label_of, not_empty}
use Rattle.ms_task.proofs.task.Task.loop_of.Goals as goal

pub returns : goal.returns
returns c =
    let d = c.in-Label-None-default-default-default-true in
    let code = c.sequence_at-code.result.now in
    let marks = c.args.self.now.marks in
    let found : slice_get marks c.args.label ≡ Some (Label None d.height d.sequence d.next true) = let at = d.ensures in let k = d.keeps-is in let a = d.again-test in cc in
    let loop = c.in_ok-body.ensures in
    let small : length code * 16 < 2 ^ 63 = omega arith in
    (d.sequence, d.next, loop.0, drop (suc c.args.label) marks, label_of c.args.label marks (Label None d.height d.sequence d.next true) found, loop.1, c.sequence_at-code.ensures, not_empty code c.is_empty.result c.is_empty.ensures c.if-is_empty.false, small)
