use Rattle.ms_flat.proofs.Arriving.{flat_leads}
use Rattle.ms_flat.proofs.Depths.{flat_may_come}
use Rattle.ms_flat.proofs.laws.flat_bodies_are_rebuilt.Goals as goal

pub returns-clause-rebuilt : goal.returns-clause-rebuilt
returns-clause-rebuilt c = λ ss numbered. (flat_leads ss numbered).0

pub returns-clause-may_come : goal.returns-clause-may_come
returns-clause-may_come c = λ most ss numbered nests. flat_may_come most ss numbered nests
