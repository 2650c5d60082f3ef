use Rattle.ms_relate.proofs.Shapes.{part_is, shape_good}
use Rattle.ms_relate.proofs.laws.shapes_agree.Goals as goal

pub returns-clause-sizes : goal.returns-clause-sizes
returns-clause-sizes c = λ table t laid some has. (let good = shape_good table laid some t has in (good.sized, good.fits))

pub returns-clause-members : goal.returns-clause-members
returns-clause-members c = λ table n m l t laid some is at. part_is table laid some n m l t is at
