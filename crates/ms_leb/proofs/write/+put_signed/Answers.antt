use Rattle.std.proofs.Common.{arith}
use Rattle.std.proofs.lemmas.Grind.{common_steps}
use Rattle.ms_leb.proofs.Spelling.{signed_more}
use Rattle.ms_leb.proofs.write.+put_signed.Goals as goal

pub returns-in-Ok-clause-ok : goal.returns-in-Ok-clause-ok
returns-in-Ok-clause-ok t c = rw (signed_more c.args.negative c.args.value (omega arith)) (grind (arith, common_steps))
