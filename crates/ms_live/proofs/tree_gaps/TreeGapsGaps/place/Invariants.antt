use Rattle.ms_live.proofs.tree_gaps.TreeGapsGaps.place.Given as goal

abbrev pub ghosts-place_uncounted : goal.ghosts-place_uncounted
ghosts-place_uncounted a = record { name = a.blank.name; parts = a.blank.parts }
