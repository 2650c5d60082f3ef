use Rattle.std.proofs.Common.{◌≡◌, ◌∙◌, ◌+◌, ◌++◌, List, ℕ, ap, drop}
use Rattle.std.specs.String.{string_bytes}
use Rattle.ms_machine.specs.Crews.{results}
use Rattle.ms_run.specs.Lines.{result_line, result_lines}
use Rattle.ms_run.proofs.Ending.{lines_grow}
use Rattle.ms_run.proofs.execution.result_lines.Goals as goal

pub loop-number-preserved : goal.loop-number-preserved
loop-number-preserved g c =
    let l = c.loop-number in
    let tasks = c.args.crew.now.tasks in
    let more = c.as_str.result.now in
    let line : more ≡ result_line c.last.result = c.as_str.ensures.value ∙ c.in_ok-line.ensures in
    ap (λ (x : List ℕ). x ++ result_lines (results (drop (l.number + 1) tasks))) c.in_ok-push_str.ensures.bytes
    ∙ lines_grow (string_bytes l.lines) more _ tasks l.number _ c.last.result c.task.ensures c.last.ensures line l.invariant
