use Rattle.std.proofs.Common.{◌∙◌, List, ℕ, refl, subst}
use Rattle.ms_run.specs.Observed.{reported, shelved}
use Rattle.ms_run.specs.Reporting.{Delivers}
use Rattle.ms_run.specs.Telling.{traced}
use Rattle.ms_run.specs.refinement.Told.{told, untold}
use Rattle.ms_run.proofs.execution.tell_run.Goals as goal

pub returns-in_default-clause-printed : goal.returns-in_default-clause-printed
returns-in_default-clause-printed g c = λ text is. untold (refl, refl) (refl, refl)

pub returns-clause-printed : goal.returns-clause-printed
returns-clause-printed g c = λ text is.
    let s = shelved g.F.Shelf.files g.F.Shelf.read_faults g.F.Shelf.write_faults c.args.shelf.now c.put_report.new.shelf in
    let r = reported g.R.Sink.held g.R.Sink.faults c.args.report.now c.put_report.new.report in
    let left = c.in-Ok.ensures text is in
    let file = traced c.args.telling.now c.args.log.now.trace.events in
    told left.0 left.1
    (subst (λ (t : List ℕ). Delivers (record { status = c.args.status; report = t; file = file }) s r c.put_report.result) (c.as_slice.ensures.value ∙ left.2) c.put_report.ensures.printed)
