use Rattle.ms_relate.proofs.Acts.{load_acts, store_acts}
use Rattle.ms_relate.proofs.laws.accesses_agree.Goals as goal

pub returns-clause-loads : goal.returns-clause-loads
returns-clause-loads c = λ table places homes m objects t p related is of. load_acts table places homes m objects t p related is of

pub returns-clause-stores : goal.returns-clause-stores
returns-clause-stores c = λ table places homes m objects t p v related is of value. store_acts table places homes m objects t p v related is of value
