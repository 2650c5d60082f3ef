use Rattle.c_runs.proofs.Executing.{executed_behaves}
use Rattle.c_runs.proofs.laws.executed_behaves.Goals as goal

pub returns : goal.returns
returns c = executed_behaves
