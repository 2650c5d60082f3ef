use Rattle.std.proofs.Common.{subst}
use Rattle.std.specs.Prelude.{Err}
use Rattle.c_check.specs.refinement.Views.{Checks}
use Rattle.c_check.specs.declared.fault.CCheck.{CCheck}
use Rattle.ms_run.specs.Source.{no_typing}
use Rattle.ms_run.proofs.source.typed.Goals as goal

pub returns-in-Err-NoTyping-clause-fault : goal.returns-in-Err-NoTyping-clause-fault
returns-in-Err-NoTyping-clause-fault c =
    let bad = c.in-Err-NoTyping in
    no_typing c.in-Ok.unit bad.at c.in-Ok.ensures.found (subst (λ (e : CCheck). Checks c.in-Ok.unit (Err e)) bad.field-0-is bad.ensures.checked)
