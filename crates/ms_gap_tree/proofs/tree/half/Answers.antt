use Rattle.std.proofs.Common.{arith, sym}
use Rattle.ms_gap_tree.proofs.Levels.{fitting, half_least}
use Rattle.ms_gap_tree.proofs.tree.half.Goals as goal

pub returns-then-level-eq0 : goal.returns-then-level-eq0
returns-then-level-eq0 c = sym (half_least c.args.level (omega arith))

pub returns : goal.returns
returns c = fitting c.args.level (omega arith) c.requires
