use Rattle.ms_gap_tree.proofs.removal.+pop.Given as goal

abbrev pub decreases-pop : goal.decreases-pop
decreases-pop l = l.level
