use Rattle.ms_leb.proofs.Spelling.{unsigned_shortest, unsigned_spelled}
use Rattle.ms_leb.proofs.write.write_u.Goals as goal

pub returns-clause-spelled : goal.returns-clause-spelled
returns-clause-spelled c = λ bits lt. unsigned_spelled bits c.args.value lt

pub returns-clause-shortest : goal.returns-clause-shortest
returns-clause-shortest c = λ bits other small h. unsigned_shortest bits c.args.value other small h
