use Rattle.std.proofs.Common.{ap, inl, inr, Ok, Err, Result}
use Rattle.ms_module.specs.declared.module.Module.{Module}
use Rattle.ms_bin_grammar.specs.declared.fault.ReadFault.{ReadFault}
use Rattle.ms_bin_read.proofs.Modules.{is_first, is_found, is_only, is_error, no_fault, no_module}
use Rattle.ms_bin_read.proofs.reader.read.Goals as goal

abbrev answered : ReadFault → Result Module ReadFault
answered e = Err e

pub returns-in-Ok-clause-found : goal.returns-in-Ok-clause-found
returns-in-Ok-clause-found c = is_found c.args.bytes.now c.new-c.result c.new-c.ensures c.in-Ok.module c.whole_module.new.c.left c.in-Ok.ensures.0

pub returns-in-Ok-clause-only : goal.returns-in-Ok-clause-only
returns-in-Ok-clause-only c = λ m h. inl (ap (λ n. Ok n) (is_only c.args.bytes.now c.new-c.result c.new-c.ensures c.in-Ok.module c.whole_module.new.c.left c.in-Ok.ensures.0 m h))

pub returns-in-Ok-clause-stops : goal.returns-in-Ok-clause-stops
returns-in-Ok-clause-stops c = λ f h. absurd (no_fault c.args.bytes.now c.new-c.result c.new-c.ensures c.in-Ok.module c.whole_module.new.c.left c.in-Ok.ensures.0 f h)

pub returns-in-Err-clause-only : goal.returns-in-Err-clause-only
returns-in-Err-clause-only c = λ m h. inr (ap answered (no_module c.args.bytes.now c.new-c.result c.new-c.ensures c.in-Err.fault c.in-Err.ensures m h))

pub returns-in-Err-clause-fault : goal.returns-in-Err-clause-fault
returns-in-Err-clause-fault c = is_first c.args.bytes.now c.new-c.result c.new-c.ensures c.in-Err.fault c.in-Err.ensures

pub returns-in-Err-clause-stops : goal.returns-in-Err-clause-stops
returns-in-Err-clause-stops c = λ f h.
    elim (is_error c.args.bytes.now c.new-c.result c.new-c.ensures c.in-Err.fault c.in-Err.ensures f h) [
      | inl e ↦ inl (ap answered e)
      | inr e ↦ inr (ap answered e)
    ]
