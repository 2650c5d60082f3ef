use Rattle.c_typing.proofs.BoundedModules.{nests}
use Rattle.c_typing.proofs.laws.compiled_nests.Goals as goal

pub returns : goal.returns
returns c = record { nests = nests }
