use Rattle.ms_valid.proofs.Verdicts.{complete}
use Rattle.ms_valid.proofs.valid.validate.Goals as goal

pub returns-in-Err-clause-complete : goal.returns-in-Err-clause-complete
returns-in-Err-clause-complete c = complete c.args.module c.in-Err.refusal c.in-Err.ensures
