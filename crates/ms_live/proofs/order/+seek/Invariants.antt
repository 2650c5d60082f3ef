use Rattle.ms_live.proofs.order.+seek.Given as goal

abbrev pub decreases-seek : goal.decreases-seek
decreases-seek l = l.level
