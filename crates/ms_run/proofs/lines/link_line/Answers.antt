use Rattle.std.proofs.Common.{append_assoc}
use Rattle.ms_run.proofs.lines.link_line.Goals as goal

pub returns : goal.returns
returns c = simp append_assoc (rw c.why_word-word.ensures at c.format.ensures.ok)
