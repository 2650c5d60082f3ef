use Rattle.ms_import.proofs.SameTypes.{types_decided}
use Rattle.ms_import.proofs.matching.are_same.Goals as goal

pub returns : goal.returns
returns c = types_decided c.are_equal.result c.args.a.now c.args.b.now c.are_equal.ensures
