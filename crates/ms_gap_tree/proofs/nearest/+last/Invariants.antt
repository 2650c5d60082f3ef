use Rattle.ms_gap_tree.proofs.nearest.+last.Given as goal

abbrev pub decreases-last : goal.decreases-last
decreases-last l = l.level
