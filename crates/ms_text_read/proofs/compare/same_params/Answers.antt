use Rattle.std.proofs.Common.{◌∙◌, arith}
use Rattle.ms_text_read.proofs.Params.{differ}
use Rattle.ms_text_read.proofs.compare.same_params.Goals as goal

pub returns-in-len1-up-b-2 : goal.returns-in-len1-up-b-2
returns-in-len1-up-b-2 c = differ c.loop-a.a.now c.loop-a.b.now (omega arith) (omega arith) ∙ c.loop-a.invariant
