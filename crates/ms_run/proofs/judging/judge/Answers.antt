use Rattle.ms_run.specs.Answers.{Judges, Unfound, unjudged}
use Rattle.ms_run.specs.Observed.{Report, shelved}
use Rattle.ms_run.specs.Reporting.{Holds, IsFound, Tells}
use Rattle.ms_run.proofs.Finding.{bytes_more, held_found}
use Rattle.ms_run.proofs.Later.{over_report, tells_more}
use Rattle.ms_run.proofs.Printed.{verdict_printed}
use Rattle.ms_run.proofs.judging.judge.Goals as goal

pub returns-in-Ok-clause-printed : goal.returns-in-Ok-clause-printed
returns-in-Ok-clause-printed g c =
    let name = c.args.file.now in
    let s = shelved g.F.Shelf.files g.F.Shelf.read_faults g.F.Shelf.write_faults c.args.shelf.now c.fetch.new.shelf in
    let before = c.in-Ok.ensures.untouched in
    let bytes = c.in-Ok.bytes.items in
    let has = bytes_more (Holds s.old) (IsFound s) (held_found s) name bytes c.in-Ok.ensures.bytes in
    over_report (λ (r : Report). Tells (Judges (IsFound s) name c.args.memory) s r c.judge_text.result) _ _ _ _ _ _ before.report
    (verdict_printed (IsFound s) name bytes has c.args.memory s _ before.counts before.files c.judge_text.result (rw c.as_slice.ensures.value at c.judge_text.ensures))

pub returns-in-Err-clause-printed : goal.returns-in-Err-clause-printed
returns-in-Err-clause-printed g c =
    let name = c.args.file.now in
    let s = shelved g.F.Shelf.files g.F.Shelf.read_faults g.F.Shelf.write_faults c.args.shelf.now c.fetch.new.shelf in
    tells_more (Unfound (IsFound s) name) (Judges (IsFound s) name c.args.memory) (λ a h. unjudged h) s _ c.in-Err.status c.in-Err.ensures.printed
