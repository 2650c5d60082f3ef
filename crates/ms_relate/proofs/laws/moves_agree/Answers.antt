use Rattle.ms_relate.proofs.Acts.{add_acts, elements_acts, member_acts}
use Rattle.ms_relate.proofs.laws.moves_agree.Goals as goal

pub returns-clause-moves : goal.returns-clause-moves
returns-clause-moves c = λ table places homes m rest t d p in_range of plain some. add_acts table places homes m rest t d p in_range of plain some

pub returns-clause-members : goal.returns-clause-members
returns-clause-members c = λ table places homes m objects e k p v related leads is some within. member_acts table places homes m objects e k p v related leads is some within

pub returns-clause-arrays : goal.returns-clause-arrays
returns-clause-arrays c = λ table places homes m objects e n v related leads some. elements_acts table places homes m objects e n v related leads some
