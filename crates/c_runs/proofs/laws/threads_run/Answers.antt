use Rattle.c_runs.proofs.Longer.{longer, same_run}
use Rattle.c_runs.proofs.laws.threads_run.Goals as goal

pub returns-clause-same : goal.returns-clause-same
returns-clause-same c = same_run

pub returns-clause-longer : goal.returns-clause-longer
returns-clause-longer c = λ n m s t input le. longer n m le s t input
