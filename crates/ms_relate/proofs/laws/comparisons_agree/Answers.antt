use Rattle.ms_relate.proofs.Acts.{diff_acts, eq_acts}
use Rattle.ms_relate.proofs.laws.comparisons_agree.Goals as goal

pub returns-clause-equality : goal.returns-clause-equality
returns-clause-equality c = λ table places homes m objects t u v w related plain also of too. eq_acts table places homes m objects t u v w related plain also of too

pub returns-clause-distance : goal.returns-clause-distance
returns-clause-distance c = λ table places homes m objects t u v w related plain also of too. diff_acts table places homes m objects t u v w related plain also of too
