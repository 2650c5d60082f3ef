use Rattle.std.proofs.Common.{◌∙◌, List, ℕ, ap, refl, subst, sym}
use Rattle.std.specs.Prelude.{Err}
use Rattle.ms_job.specs.Jobs.{job_in}
use Rattle.ms_job.specs.refinement.Reading.{ReadsJob}
use Rattle.ms_run.specs.Observed.{Report}
use Rattle.ms_run.specs.Reporting.{ReportsJobFault}
use Rattle.ms_run.proofs.Jobs.{fault_answered, job_answered, unfound_answered}
use Rattle.ms_run.proofs.Later.{over_report}
use Rattle.ms_run.proofs.Safe.{file_did_safely}
use Rattle.ms_run.proofs.running.run_job.Goals as goal

pub returns-in-Err-clause-did : goal.returns-in-Err-clause-did
returns-in-Err-clause-did g c = unfound_answered c.args.job.now _ _ _ (refl, refl, refl, refl) c.in-Err.status c.in-Err.ensures.printed

pub returns-in-Ok-parse-clause-did : goal.returns-in-Ok-parse-clause-did
returns-in-Ok-parse-clause-did g c =
    let is = ap job_in (sym c.as_slice.ensures.value) ∙ c.in-Ok-parse.ensures.job in
    job_answered _ _ _ _ _ _ _ _ _ _ _ _ _ _ _ c.args.job.now c.in-Ok.bytes.items _ c.run_parsed.result c.in-Ok.ensures.untouched c.in-Ok.ensures.bytes c.in-Ok-parse.parsed is c.run_parsed.ensures.did

pub returns-clause-did : goal.returns-clause-did
returns-clause-did g c =
    let before = c.in-Ok.ensures.untouched in
    let bytes = c.in-Ok.bytes.items in
    let fault = c.in-Err-parse.fault in
    let is = subst (λ (text : List ℕ). ReadsJob (job_in text) (Err fault)) c.as_slice.ensures.value c.in-Err-parse.ensures.job in
    fault_answered c.args.job.now _ _ _ bytes fault c.in-Ok.ensures.bytes is before.counts before.files (refl, refl, refl, refl) c.answer_job_fault.result
    (over_report (λ (r : Report). ReportsJobFault fault r c.answer_job_fault.result) _ _ _ _ _ _ before.report c.answer_job_fault.ensures)

pub returns-in-Err-clause-safe : goal.returns-in-Err-clause-safe
returns-in-Err-clause-safe g c = file_did_safely _ _ _ c.args.job.now _ (returns-in-Err-clause-did g c)

pub returns-in-Ok-parse-clause-safe : goal.returns-in-Ok-parse-clause-safe
returns-in-Ok-parse-clause-safe g c = file_did_safely _ _ _ c.args.job.now _ (returns-in-Ok-parse-clause-did g c)

pub returns-clause-safe : goal.returns-clause-safe
returns-clause-safe g c = file_did_safely _ _ _ c.args.job.now _ (returns-clause-did g c)
