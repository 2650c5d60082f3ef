use Rattle.std.proofs.Common.{◌-◌, drop, ap, ◌∙◌}
use Rattle.ms_task.proofs.Kept.{keep_one}
use Rattle.ms_task.proofs.control.keep_operands.Goals as goal

pub returns-in-Some : goal.returns-in-Some
returns-in-Some c =
    rw c.in-Some.is (keep_one c.in-Some.field-0 c.args.height c.args.operands.now c.cut-in-Some.new.self c.set_top_cell.new.self c.cell-cell.result c.cell-cell.ensures (c.cut-in-Some.ensures ∙ ap (λ n. drop (n - 1 - c.args.height) c.args.operands.now) c.len-in-Some.ensures) c.set_top_cell.ensures (rw c.in-Some.is at c.requires))
