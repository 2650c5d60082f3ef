use Rattle.ms_live.proofs.order.+pick.Given as goal

abbrev pub decreases-pick : goal.decreases-pick
decreases-pick l = l.level
