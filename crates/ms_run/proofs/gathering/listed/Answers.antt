use Rattle.std.proofs.Common.{ap, sym, subst, ◌∙◌}
use Rattle.std.specs.Prelude.{Err}
use Rattle.ms_job.specs.refinement.Reading.{ReadsSchedule}
use Rattle.ms_job.specs.Schedules.{schedule_in}
use Rattle.ms_job.specs.declared.fault.SchedFault.{SchedFault}
use Rattle.ms_run.specs.Answers.{Unfound}
use Rattle.ms_run.specs.Jobs.{Unnumbered, no_file}
use Rattle.ms_run.specs.Lines.{schedule_line}
use Rattle.ms_run.specs.Observed.{Report, shelved}
use Rattle.ms_run.specs.Reporting.{IsFound, Tells}
use Rattle.ms_run.proofs.Gathered.{no_number_printed, starved_printed}
use Rattle.ms_run.proofs.Later.{over_report, tells_more}
use Rattle.ms_run.proofs.gathering.listed.Goals as goal

pub returns-in-Err-clause-printed : goal.returns-in-Err-clause-printed
returns-in-Err-clause-printed g c =
    let s = shelved g.F.Shelf.files g.F.Shelf.read_faults g.F.Shelf.write_faults c.args.shelf.now c.fetch.new.shelf in
    let name = c.args.file.now in
    tells_more (Unfound (IsFound s) name) (Unnumbered (IsFound s) name) (λ a h. no_file h) s _ c.in-Err.status c.in-Err.ensures.printed

pub returns-in-Err-At-clause-printed : goal.returns-in-Err-At-clause-printed
returns-in-Err-At-clause-printed g c =
    let s = shelved g.F.Shelf.files g.F.Shelf.read_faults g.F.Shelf.write_faults c.args.shelf.now c.fetch.new.shelf in
    let name = c.args.file.now in
    let bytes = c.in-Ok.bytes.items in
    let before = c.in-Ok.ensures.untouched in
    let at_fault = subst (λ (e : SchedFault). ReadsSchedule (schedule_in c.as_slice.result.now) (Err e)) c.in-Err-At.field-0-is c.in-Err-At.ensures in
    let read = ap schedule_in (sym c.as_slice.ensures.value) ∙ at_fault in
    over_report (λ (r : Report). Tells (Unnumbered (IsFound s) name) s r c.answer_line.result) _ _ _ _ _ _ before.report
    (no_number_printed s _ name bytes c.in-Err-At.at c.answer_line.result c.in-Ok.ensures.bytes read before.counts before.files (c.answer_line.ensures (schedule_line c.in-Err-At.at) c.schedule_line.ensures))

pub returns-clause-printed : goal.returns-clause-printed
returns-clause-printed g c =
    let s = shelved g.F.Shelf.files g.F.Shelf.read_faults g.F.Shelf.write_faults c.args.shelf.now c.fetch.new.shelf in
    starved_printed (Unnumbered (IsFound s) c.args.file.now) s _ c.in-Ok.ensures.untouched
