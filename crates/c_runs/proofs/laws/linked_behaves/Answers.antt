use Rattle.c_runs.proofs.Linking.{linked_behaves}
use Rattle.c_runs.proofs.laws.linked_behaves.Goals as goal

pub returns : goal.returns
returns c = linked_behaves
