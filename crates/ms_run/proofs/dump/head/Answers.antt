use Rattle.std.proofs.Common.{append_assoc}
use Rattle.ms_run.proofs.dump.head.Goals as goal

pub returns : goal.returns
returns c = simp append_assoc (rw c.kind_word-kind.ensures at c.format.ensures.ok)
