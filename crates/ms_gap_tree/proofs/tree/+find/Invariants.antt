use Rattle.ms_gap_tree.proofs.tree.+find.Given as goal

abbrev pub decreases-find : goal.decreases-find
decreases-find l = l.level
