use Rattle.std.proofs.Common.{arith, rules}
use Rattle.std.proofs.lemmas.Grind.{common_steps}
use Rattle.ms_leb.proofs.Spelling.{unsigned_last, unsigned_more}
use Rattle.ms_leb.proofs.write.+put_unsigned.Goals as goal

pub returns-then-value-lt128-clause-ok : goal.returns-then-value-lt128-clause-ok
returns-then-value-lt128-clause-ok t c = rw (unsigned_last c.args.value (omega arith)) (search rules)

pub returns-in-Ok-clause-ok : goal.returns-in-Ok-clause-ok
returns-in-Ok-clause-ok t c = rw (unsigned_more c.args.value (omega arith)) (grind (arith, common_steps))
