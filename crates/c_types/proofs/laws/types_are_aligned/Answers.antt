use Rattle.c_types.proofs.Alignment.{has_aligned}
use Rattle.c_types.proofs.laws.types_are_aligned.Goals as goal

pub returns-clause-alignment : goal.returns-clause-alignment
returns-clause-alignment c =
    λ table t laid some has. (let a = has_aligned table laid some t has in (a.some, a.most))

pub returns-clause-size : goal.returns-clause-size
returns-clause-size c =
    λ table t laid some has. (let a = has_aligned table laid some t has in (a.filled, a.whole))
