use Rattle.c_types.proofs.Alignment.{member_is_aligned, member_is_inside, members_are_in_order}
use Rattle.c_types.proofs.laws.members_are_placed.Goals as goal

pub returns-clause-aligned : goal.returns-clause-aligned
returns-clause-aligned c = λ table n m l t laid. member_is_aligned table laid n m l t

pub returns-clause-inside : goal.returns-clause-inside
returns-clause-inside c = λ table n m l t laid some. member_is_inside table laid some n m l t

pub returns-clause-ordered : goal.returns-clause-ordered
returns-clause-ordered c = λ table n m k l t u laid some. members_are_in_order table laid some n m k l t u
