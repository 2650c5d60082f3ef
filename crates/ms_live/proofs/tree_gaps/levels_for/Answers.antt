use Rattle.std.proofs.Common.{arith, refl}
use Rattle.ms_live.specs.declared.gaps.TheConstants.{GAP_LEVELS}
use Rattle.ms_live.proofs.Keeping.{all_levels}
use Rattle.ms_live.proofs.tree_gaps.levels_for.Goals as goal

pub returns : goal.returns
returns c = all_levels GAP_LEVELS c.args.capacity refl (omega arith)
