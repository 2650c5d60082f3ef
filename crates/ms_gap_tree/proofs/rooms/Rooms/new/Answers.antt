use Rattle.std.proofs.Common.{ap, ◌∙◌}
use Rattle.ms_gap_tree.specs.refinement.Rooms.{room_at, size_of}
use Rattle.ms_gap_tree.specs.refinement.Tree.{look, size}
use Rattle.ms_gap_tree.proofs.Levels.{look_empty, tree_none}
use Rattle.ms_gap_tree.proofs.rooms.Rooms.new.Goals as goal

pub returns-clause-size : goal.returns-clause-size
unfolding size_of
returns-clause-size c = ap size (tree_none _ c.args.levels)

pub returns-clause-rooms : goal.returns-clause-rooms
unfolding room_at
returns-clause-rooms c key = ap (look c.args.levels 0 key) (tree_none _ c.args.levels) ∙ look_empty c.args.levels 0 key
