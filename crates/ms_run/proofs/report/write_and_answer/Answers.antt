use Rattle.std.proofs.Common.{refl}
use Rattle.ms_run.specs.Reporting.{failed, put, starved}
use Rattle.ms_run.proofs.Done.{not_written}
use Rattle.ms_run.proofs.report.write_and_answer.Goals as goal

pub returns-in-Done-clause-delivered : goal.returns-in-Done-clause-delivered
returns-in-Done-clause-delivered g c = put (c.in-Done.ensures.files, c.in-Done.ensures.faults) c.answer.ensures

pub returns-in-Failed-clause-delivered : goal.returns-in-Failed-clause-delivered
returns-in-Failed-clause-delivered g c = failed (c.in-Failed.ensures.files, c.in-Failed.ensures.faults) (refl, refl)

pub returns-in-Memory-clause-delivered : goal.returns-in-Memory-clause-delivered
returns-in-Memory-clause-delivered g c = starved (not_written c.args.name.now c.args.bytes.now _ _ c.in-Memory.ensures.files, c.in-Memory.ensures.faults) (refl, refl)
