use Rattle.std.proofs.Common.{List, sym, ap, ◌∙◌, subst}
use Rattle.ms_gap_tree.specs.refinement.Arena.{tree_of}
use Rattle.ms_gap_tree.specs.refinement.Rooms.{Arena, IsLast, room_at}
use Rattle.ms_gap_tree.specs.refinement.Tree.{last}
use Rattle.ms_gap_tree.specs.declared.node.Node.{Node}
use Rattle.ms_gap_tree.proofs.LastLaw.{last_law}
use Rattle.ms_gap_tree.proofs.rooms.Rooms.last.Goals as goal

pub returns : goal.returns
unfolding room_at
returns c =
    let levels = c.self.inside.levels in
    let t = tree_of c.self.inside.nodes.items levels c.self.inside.root in
    let e = c.last.ensures ∙ ap (λ (nodes : List Node). last levels 0 c.args.key (tree_of nodes levels c.self.inside.root)) c.as_slice.ensures.value in
    subst (λ (a : Arena). IsLast (room_at a) c.args.key c.last.result) c.self.view_is (subst (IsLast _ c.args.key) (sym e) (last_law levels 0 c.args.key t c.self.invariant.0.in_order))
