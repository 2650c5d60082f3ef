use Rattle.std.proofs.Common.{List, ap, ◌∙◌}
use Rattle.ms_gap_tree.specs.refinement.Arena.{tree_of}
use Rattle.ms_gap_tree.specs.refinement.Rooms.{Arena, room_at}
use Rattle.ms_gap_tree.specs.refinement.Tree.{look}
use Rattle.ms_gap_tree.specs.declared.node.Node.{Node}
use Rattle.ms_gap_tree.proofs.rooms.Rooms.find.Goals as goal

pub returns : goal.returns
unfolding room_at
returns c =
    c.find.ensures ∙ (ap (λ (nodes : List Node). look c.self.inside.levels 0 c.args.key (tree_of nodes c.self.inside.levels c.self.inside.root)) c.as_slice.ensures.value ∙ ap (λ (a : Arena). room_at a c.args.key) c.self.view_is)
