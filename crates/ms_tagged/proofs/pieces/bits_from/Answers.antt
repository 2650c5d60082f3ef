use Rattle.std.proofs.Common.{arith}
use Rattle.ms_tagged.proofs.Forgetting.{bits-computed}
use Rattle.ms_tagged.proofs.pieces.bits_from.Goals as goal

pub returns : goal.returns
returns c = bits-computed c.args.first c.args.second c.args.place c.args.count c.from-2.result c.from.result c.from-2.ensures c.from.ensures (omega arith) (omega arith) c.requires.few
