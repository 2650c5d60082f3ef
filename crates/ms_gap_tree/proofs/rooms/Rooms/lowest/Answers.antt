use Rattle.std.proofs.Common.{◌+◌, ◌≤◌, ℕ, List, arith, sym, ap, ◌∙◌, subst}
use Rattle.ms_gap_tree.specs.refinement.Arena.{tree_of}
use Rattle.ms_gap_tree.specs.refinement.Rooms.{Arena, IsLowest, nodes_looked_at, room_at}
use Rattle.ms_gap_tree.specs.refinement.Tree.{looked, lowest}
use Rattle.ms_gap_tree.specs.declared.node.Node.{Node}
use Rattle.ms_gap_tree.proofs.LowestLaw.{lowest_law}
use Rattle.ms_gap_tree.proofs.rooms.Rooms.lowest.Goals as goal

pub returns-clause-found : goal.returns-clause-found
unfolding room_at
returns-clause-found g c =
    let levels = c.self.inside.levels in
    let t = tree_of c.self.inside.nodes.items levels c.self.inside.root in
    let e = c.lowest.ensures.found ∙ ap (λ (nodes : List Node). lowest c.args.n (tree_of nodes levels c.self.inside.root)) c.as_slice.ensures.value in
    subst (λ (a : Arena). IsLowest (room_at a) c.args.n c.lowest.result) c.self.view_is (subst (IsLowest _ c.args.n) (sym e) (lowest_law levels 0 c.args.n t c.self.invariant.0.in_order))

pub returns-clause-steps : goal.returns-clause-steps
unfolding nodes_looked_at
returns-clause-steps g c =
    let levels = c.self.inside.levels in
    let e = ap (λ (nodes : List Node). looked levels c.args.n (tree_of nodes levels c.self.inside.root)) c.as_slice.ensures.value in
    let f = ap (λ (a : Arena). nodes_looked_at a c.args.n) c.self.view_is in
    c.lowest.ensures.looked ∙ ap (λ (m : ℕ). c.args.steps.now + m) (e ∙ f)

pub returns-clause-most : goal.returns-clause-most
unfolding nodes_looked_at
returns-clause-most g c =
    let levels = c.self.inside.levels in
    let e = ap (λ (nodes : List Node). looked levels c.args.n (tree_of nodes levels c.self.inside.root)) c.as_slice.ensures.value in
    subst (λ (a : Arena). nodes_looked_at a c.args.n ≤ a.levels) c.self.view_is (let l = c.lowest.ensures.looked in let k = c.lowest.ensures.cost in omega (arith, e))
