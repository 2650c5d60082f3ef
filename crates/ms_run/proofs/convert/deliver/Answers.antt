use Rattle.std.proofs.Common.{refl}
use Rattle.ms_run.specs.Reporting.{starved}
use Rattle.ms_run.proofs.convert.deliver.Goals as goal

pub returns-in_default-clause-delivered : goal.returns-in_default-clause-delivered
returns-in_default-clause-delivered g c = starved (refl, refl) (refl, refl)

pub returns-clause-delivered : goal.returns-clause-delivered
returns-clause-delivered g c = rw (c.as_bytes.ensures.value, c.in-Ok.ensures) at c.write_and_answer.ensures.delivered
