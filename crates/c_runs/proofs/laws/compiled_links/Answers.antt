use Rattle.c_runs.proofs.Linking.{compiled_links}
use Rattle.c_runs.proofs.laws.compiled_links.Goals as goal

pub returns : goal.returns
returns c = compiled_links
