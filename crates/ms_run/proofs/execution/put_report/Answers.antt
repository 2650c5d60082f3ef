use Rattle.std.proofs.Common.{Option, refl, subst, sym}
use Rattle.ms_run.specs.Answers.{File}
use Rattle.ms_run.specs.Observed.{reported, shelved}
use Rattle.ms_run.specs.Reporting.{Delivers, put, starved}
use Rattle.ms_run.proofs.Ending.{untraced}
use Rattle.ms_run.proofs.execution.put_report.Goals as goal

pub returns-in_default-clause-printed : goal.returns-in_default-clause-printed
returns-in_default-clause-printed g c =
    let s = shelved g.F.Shelf.files g.F.Shelf.read_faults g.F.Shelf.write_faults c.args.shelf.now c.args.shelf.now in
    let r = reported g.R.Sink.held g.R.Sink.faults c.args.report.now c.answer.new.report in
    subst (λ (file : Option File). Delivers (record { status = c.args.status; report = c.args.text.now; file = file }) s r c.answer.result) (sym (untraced c.args.telling.now c.args.log.now.trace.events c.in_default.is))
    (put (refl, refl) c.answer.ensures)

pub returns-in_default-print_trace-clause-printed : goal.returns-in_default-print_trace-clause-printed
returns-in_default-print_trace-clause-printed g c = starved (refl, refl) (refl, refl)
