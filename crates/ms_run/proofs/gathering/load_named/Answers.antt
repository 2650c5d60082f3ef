use Rattle.std.proofs.Common.{refl}
use Rattle.ms_run.specs.Reporting.{unprinted}
use Rattle.ms_run.proofs.gathering.load_named.Goals as goal

pub returns-in_default-clause-printed : goal.returns-in_default-clause-printed
returns-in_default-clause-printed g c = unprinted (λ n. refl) (refl, refl) (refl, refl)

pub returns-in_default-new-clause-printed : goal.returns-in_default-new-clause-printed
returns-in_default-new-clause-printed g c = unprinted (λ n. refl) (refl, refl) (refl, refl)
