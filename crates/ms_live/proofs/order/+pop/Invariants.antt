use Rattle.ms_live.proofs.order.+pop.Given as goal

abbrev pub decreases-pop : goal.decreases-pop
decreases-pop l = l.level
