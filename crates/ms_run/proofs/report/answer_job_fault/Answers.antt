use Rattle.ms_run.specs.Lines.{job_line}
use Rattle.ms_run.proofs.Jobs.{job_fault_reported}
use Rattle.ms_run.proofs.report.answer_job_fault.Goals as goal

pub returns-in_default : goal.returns-in_default
returns-in_default g c = job_fault_reported c.args.fault _ c.answer_line.result c.in_default.not-Memory (c.answer_line.ensures (job_line c.args.fault) c.job_line.ensures)
