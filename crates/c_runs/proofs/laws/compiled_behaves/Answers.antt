use Rattle.c_runs.proofs.Top.{compiled_behaves}
use Rattle.c_runs.proofs.laws.compiled_behaves.Goals as goal

pub returns : goal.returns
returns c = compiled_behaves
