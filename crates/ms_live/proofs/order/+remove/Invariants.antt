use Rattle.ms_live.proofs.order.+remove.Given as goal

abbrev pub decreases-remove : goal.decreases-remove
decreases-remove l = l.level
