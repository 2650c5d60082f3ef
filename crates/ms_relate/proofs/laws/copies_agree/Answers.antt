use Rattle.ms_relate.proofs.Copying.{copies}
use Rattle.ms_relate.proofs.laws.copies_agree.Goals as goal

pub returns : goal.returns
returns c = λ table places homes s a d objects m scalars fits to from related. copies table places homes s a d objects m scalars fits to from related
