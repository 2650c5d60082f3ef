use Rattle.std.proofs.Common.{[], inr}
use Rattle.ms_run.specs.Answers.{Checks, Unloaded, checked, unchecked}
use Rattle.ms_run.specs.Lines.{valid_line}
use Rattle.ms_run.specs.Observed.{Report, shelved}
use Rattle.ms_run.specs.Reporting.{Holds, IsFound, Reports, printed}
use Rattle.ms_run.specs.declared.status.Status.TheVariants.{Done}
use Rattle.ms_run.proofs.Finding.{held_found, module_more}
use Rattle.ms_run.proofs.Later.{over_report, tells_more}
use Rattle.ms_run.proofs.check.check_file.Goals as goal

pub returns-in-Ok-clause-printed : goal.returns-in-Ok-clause-printed
returns-in-Ok-clause-printed g c =
    let s = shelved g.F.Shelf.files g.F.Shelf.read_faults g.F.Shelf.write_faults c.args.shelf.now c.load_file.new.shelf in
    let before = c.in-Ok.ensures.untouched in
    printed Done valid_line (checked c.in-Ok._valid (module_more (Holds s.old) (IsFound s) (held_found s) c.args.file.now c.in-Ok._valid c.in-Ok.ensures.module)) (inr before.counts) before.files
    (over_report (λ (r : Report). Reports Done valid_line r c.answer.result) _ _ _ _ _ _ before.report (rw c.valid_line.ensures at c.answer.ensures))

pub returns-in-Err-clause-printed : goal.returns-in-Err-clause-printed
returns-in-Err-clause-printed g c =
    let s = shelved g.F.Shelf.files g.F.Shelf.read_faults g.F.Shelf.write_faults c.args.shelf.now c.load_file.new.shelf in
    tells_more (Unloaded (IsFound s) [] c.args.file.now) (Checks (IsFound s) c.args.file.now) (λ a h. unchecked h) s _ c.in-Err.status c.in-Err.ensures.printed
