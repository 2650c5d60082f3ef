use Rattle.std.proofs.Common.{ap, refl, subst}
use Rattle.std.specs.Prelude.{Err, IfErr, Result}
use Rattle.ms_module.specs.declared.module.Module.{Module}
use Rattle.ms_run.specs.Loading.{IsOfReading, ReadsForm}
use Rattle.ms_run.specs.declared.loading.LoadFault.{LoadFault}
use Rattle.ms_run.specs.Reporting.{made_none}
use Rattle.ms_run.proofs.Written.{assembled_makes, fault_makes, large_makes}
use Rattle.ms_run.proofs.convert.assemble.Goals as goal

pub returns-in-Err-clause-makes : goal.returns-in-Err-clause-makes
returns-in-Err-clause-makes g c = λ form bytes reads reading.
    fault_makes c.args.target.now bytes _ _ c.answer_fault.result form c.in-Err.fault (subst (ReadsForm form bytes) c.in-Err.is reads) (subst (λ (r : Result Module LoadFault). IfErr r IsOfReading) c.in-Err.is reading) (refl, refl) c.answer_fault.ensures

pub returns-in-Ok-write-clause-makes : goal.returns-in-Ok-write-clause-makes
returns-in-Ok-write-clause-makes g c = λ form bytes reads reading.
    assembled_makes c.args.target.now bytes _ _ c.deliver.result form c.in-Ok.module c.in-Ok-write.binary.items c.in-Ok-write.ensures.written (subst (ReadsForm form bytes) c.in-Ok.is reads) c.in-Ok-write.ensures.small
    (rw c.as_slice.ensures.value at c.deliver.ensures.delivered)

pub returns-in-Err-Large-clause-makes : goal.returns-in-Err-Large-clause-makes
returns-in-Err-Large-clause-makes g c = λ form bytes reads reading.
    large_makes c.args.target.now bytes _ _ c.answer.result form c.in-Ok.module (subst (ReadsForm form bytes) c.in-Ok.is reads) (c.in-Err-Large.ensures.large (ap Err c.in-Err-Large.field-0-is)) (refl, refl) (rw c.large_line.ensures at c.answer.ensures)

pub returns-clause-makes : goal.returns-clause-makes
returns-clause-makes g c = λ form bytes reads reading. made_none (refl, refl) (refl, refl)
