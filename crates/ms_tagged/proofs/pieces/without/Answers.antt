use Rattle.std.proofs.Common.{arith}
use Rattle.ms_tagged.proofs.Forgetting.{clears-computed}
use Rattle.ms_tagged.proofs.pieces.without.Goals as goal

pub returns : goal.returns
returns c = clears-computed c.args.mask c.args.from c.args.to c.from-mask.result c.from-mask.ensures (omega arith) c.requires.order c.requires.within
