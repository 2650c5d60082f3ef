use Rattle.ms_gap_tree.proofs.removal.+remove.Given as goal

abbrev pub decreases-remove : goal.decreases-remove
decreases-remove l = l.level
