use Rattle.ms_gap_tree.proofs.tree.+insert.Given as goal

abbrev pub decreases-insert : goal.decreases-insert
decreases-insert l = l.level
