use Rattle.std.proofs.Common.{◌∙◌, ap, inl, inr}
use Rattle.std.specs.Prelude.{Err, Ok}
use Rattle.ms_run.specs.Loading.{form_of}
use Rattle.ms_run.proofs.Once.{one_module}
use Rattle.ms_run.proofs.Printed.{never_refused, refused_only}
use Rattle.ms_run.proofs.loading.load_module.Goals as goal

pub returns-in-Err-clause-only : goal.returns-in-Err-clause-only
returns-in-Err-clause-only c = λ m spelled well. inr (ap Err (refused_only (form_of c.args.name.now) c.args.bytes.now c.in-Err.fault c.in-Err.ensures m spelled well))

pub returns-in-Ok-validate-clause-only : goal.returns-in-Ok-validate-clause-only
returns-in-Ok-validate-clause-only c = λ m spelled well. inl (ap Ok (c.in-Ok-validate.ensures.valid.0 ∙ one_module (form_of c.args.name.now) c.args.bytes.now c.in-Ok.module m c.in-Ok.ensures spelled))

pub returns-in-Err-default-Invalid-clause-only : goal.returns-in-Err-default-Invalid-clause-only
returns-in-Err-default-Invalid-clause-only c = λ m spelled well.
    let wrong = c.in-Err-default-Invalid in
    absurd (never_refused (form_of c.args.name.now) c.args.bytes.now c.in-Ok.module m wrong.field-0-1 _ wrong.field-0-1-is wrong.ensures.refused.1 c.in-Ok.ensures spelled well)
