use Rattle.std.proofs.Common.{◌-◌}
use Rattle.ms_live.proofs.ids.+grow.Given as goal

abbrev pub decreases-grow : goal.decreases-grow
decreases-grow l = 65 - l.levels
