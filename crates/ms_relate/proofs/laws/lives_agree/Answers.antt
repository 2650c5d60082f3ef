use Rattle.ms_relate.proofs.Acts.{free_acts, new_acts}
use Rattle.ms_relate.proofs.Ending.{frame_ends}
use Rattle.ms_relate.proofs.laws.lives_agree.Goals as goal

pub returns-clause-new : goal.returns-clause-new
returns-clause-new c = λ table places homes m objects k s n related fits. new_acts table places homes m objects k s n related fits

pub returns-clause-frees : goal.returns-clause-frees
returns-clause-frees c = λ table places homes m objects t p related some of plain. free_acts table places homes m objects t p related some of plain

pub returns-clause-ends : goal.returns-clause-ends
returns-clause-ends c = λ table places homes m objects n o h related at there alive kind. frame_ends table places homes objects m n o h related at there alive kind
