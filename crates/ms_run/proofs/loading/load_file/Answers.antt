use Rattle.std.proofs.Common.{List, ℕ, subst}
use Rattle.ms_run.specs.Loading.{Refuses, form_of}
use Rattle.ms_run.specs.Answers.{Unfound, Unloaded, unfound}
use Rattle.ms_run.specs.Observed.{Report, shelved}
use Rattle.ms_run.specs.Reporting.{IsFound, Tells}
use Rattle.ms_run.proofs.Later.{over_report, tells_more}
use Rattle.ms_run.proofs.Printed.{fault_printed}
use Rattle.ms_run.proofs.loading.load_file.Goals as goal

pub returns-in-Ok-load_module-clause-module : goal.returns-in-Ok-load_module-clause-module
returns-in-Ok-load_module-clause-module g c =
    let loaded = rw c.as_slice.ensures.value at c.in-Ok-load_module.ensures.found in
    record { bytes = c.in-Ok.bytes.items; found = c.in-Ok.ensures.bytes; spelled = loaded.0; typed = loaded.1 }

pub returns-in-Err-clause-printed : goal.returns-in-Err-clause-printed
returns-in-Err-clause-printed g c =
    let s = shelved g.F.Shelf.files g.F.Shelf.read_faults g.F.Shelf.write_faults c.args.shelf.now c.fetch.new.shelf in
    tells_more (Unfound (IsFound s) c.args.file.now) (Unloaded (IsFound s) c.args.what.now c.args.file.now) (λ a h. unfound h) s _ c.in-Err.status c.in-Err.ensures.printed

pub returns-clause-printed : goal.returns-clause-printed
returns-clause-printed g c =
    let s = shelved g.F.Shelf.files g.F.Shelf.read_faults g.F.Shelf.write_faults c.args.shelf.now c.fetch.new.shelf in
    let name = c.args.file.now in
    let what = c.args.what.now in
    let before = c.in-Ok.ensures.untouched in
    let refuses = subst (λ (bytes : List ℕ). Refuses (form_of name) bytes c.in-Err-load_module.fault) c.as_slice.ensures.value c.in-Err-load_module.ensures.refused in
    over_report (λ (r : Report). Tells (Unloaded (IsFound s) what name) s r c.answer_fault.result) _ _ _ _ _ _ before.report
    (fault_printed (IsFound s) what name c.in-Ok.bytes.items c.in-Ok.ensures.bytes s _ c.answer_fault.result before.counts before.files c.in-Err-load_module.fault refuses c.answer_fault.ensures)
