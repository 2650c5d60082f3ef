use Rattle.std.proofs.Common.{refl}
use Rattle.ms_run.specs.Reporting.{made_none}
use Rattle.ms_run.proofs.Written.{binary_fault_makes, disassembled_makes}
use Rattle.ms_run.proofs.convert.dis_bytes.Goals as goal

pub returns-in-Err-clause-makes : goal.returns-in-Err-clause-makes
returns-in-Err-clause-makes g c =
    binary_fault_makes c.args.target.now c.args.bytes.items _ _ c.answer_fault.result c.in-Err.fault c.in-Err.ensures.reads c.in-Err.ensures.reading (refl, refl) c.answer_fault.ensures

pub returns-in-Ok-write-clause-makes : goal.returns-in-Ok-write-clause-makes
returns-in-Ok-write-clause-makes g c =
    disassembled_makes c.args.target.now c.args.bytes.items _ _ c.deliver.result c.in-Ok.module c.in-Ok-write.text.items c.in-Ok-write.ensures.written c.in-Ok.ensures.reads
    (rw c.as_slice.ensures.value at c.deliver.ensures.delivered)

pub returns-clause-makes : goal.returns-clause-makes
returns-clause-makes g c = made_none (refl, refl) (refl, refl)
