use Rattle.c_types.proofs.Nesting.{members_below}
use Rattle.c_types.proofs.laws.structs_nest.Goals as goal

pub returns : goal.returns
returns c = λ table n l laid. members_below table laid n l
