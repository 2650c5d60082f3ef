use Rattle.c_runs.proofs.Linking.{compiled_is_placed}
use Rattle.c_runs.proofs.laws.compiled_is_placed.Goals as goal

pub returns : goal.returns
returns c = compiled_is_placed
