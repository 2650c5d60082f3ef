use Rattle.std.proofs.Common.{ap, inl, inr, subst}
use Rattle.std.specs.Prelude.{Err, Ok}
use Rattle.c_typed.specs.refinement.Views.{typed_of}
use Rattle.c_compile.specs.Refusals.{IsRefused}
use Rattle.c_compile.specs.declared.fault.CFault.{CFault}
use Rattle.ms_run.specs.Source.{past}
use Rattle.ms_run.specs.declared.source.SourceFault.TheVariants as faults
use Rattle.ms_run.proofs.Units.{never_both, one_module, stopped_only}
use Rattle.ms_run.proofs.source.module_of.Goals as goal

pub returns-in-Err-clause-only : goal.returns-in-Err-clause-only
returns-in-Err-clause-only c = λ m h. inr (ap Err (stopped_only c.args.bytes.now c.in-Err.fault m c.in-Err.ensures.fault h))

pub returns-in-Ok-compile-clause-only : goal.returns-in-Ok-compile-clause-only
returns-in-Ok-compile-clause-only c = λ m h.
    let made = c.in-Ok-compile in
    inl (ap Ok (one_module c.args.bytes.now made.module m
    (record { unit = typed_of c.in-Ok.typed; is_unit = c.in-Ok.ensures.found; within = made.ensures.within; module' = made.ensures.module; small = made.ensures.small }) h))

pub returns-in-Err-Limit-clause-only : goal.returns-in-Err-Limit-clause-only
returns-in-Err-Limit-clause-only c = λ m h.
    let bad = c.in-Err-Limit in
    let u = typed_of c.in-Ok.typed in
    absurd (never_both c.args.bytes.now (faults.Limit bad.limit) m
    (past u bad.limit c.in-Ok.ensures.found (subst (λ (e : CFault). IsRefused u e) bad.field-0-is bad.ensures.refused)) h)

pub returns-in-Err-Limit-clause-fault : goal.returns-in-Err-Limit-clause-fault
returns-in-Err-Limit-clause-fault c =
    let bad = c.in-Err-Limit in
    let u = typed_of c.in-Ok.typed in
    past u bad.limit c.in-Ok.ensures.found (subst (λ (e : CFault). IsRefused u e) bad.field-0-is bad.ensures.refused)
