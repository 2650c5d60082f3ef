use Rattle.ms_gap_tree.proofs.leftmost.+lowest.Given as goal

abbrev pub decreases-lowest : goal.decreases-lowest
decreases-lowest g l = l.level
