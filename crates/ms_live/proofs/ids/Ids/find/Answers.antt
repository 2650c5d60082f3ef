use Rattle.std.proofs.Common.{◌==◌, List, length, find, arith, sym, ap, ◌∙◌, subst}
use Rattle.ms_live.specs.refinement.Ordered.{seek, tree_of, IsWithinArena}
use Rattle.ms_live.specs.declared.branch.Halves.{Halves}
use Rattle.ms_live.specs.declared.gaps.Live.{Live}
use Rattle.ms_live.proofs.OrderedLaws.{seek_law}
use Rattle.ms_live.proofs.Storing.{half_upto}
use Rattle.ms_live.proofs.ids.Ids.find.Goals as goal

pub seek-requires-clause-levels : goal.seek-requires-clause-levels
seek-requires-clause-levels c = let l = c.self.invariant.0.levels in omega arith

pub seek-requires-clause-range : goal.seek-requires-clause-range
seek-requires-clause-range c = let h = half_upto c.self.inside.levels c.self.invariant.0.levels in omega arith

pub seek-requires-clause-within : goal.seek-requires-clause-within
seek-requires-clause-within c = subst (λ (nodes : List Halves). IsWithinArena (length nodes) (tree_of nodes c.self.inside.levels c.self.inside.root)) (sym c.as_slice.ensures.value) c.self.invariant.0.within

pub returns : goal.returns
returns c =
    let s = c.self.inside in
    c.seek.ensures
    ∙ (ap (λ (nodes : List Halves). seek s.levels 0 c.args.id (tree_of nodes s.levels s.root)) c.as_slice.ensures.value
    ∙ (seek_law s.levels 0 c.args.id (tree_of s.nodes.items s.levels s.root) c.self.invariant.0.in_order ∙ ap (find (λ (t : Live). t.id == c.args.id)) c.self.view_is))
