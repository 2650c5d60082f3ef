use Rattle.ms_module.proofs.Nesting.{deeper, nests}
use Rattle.ms_module.proofs.laws.bodies_have_a_depth.Goals as goal

pub returns-clause-some : goal.returns-clause-some
returns-clause-some c = nests

pub returns-clause-greater : goal.returns-clause-greater
returns-clause-greater c = deeper
