use Rattle.std.proofs.Common.{List, length, sym, ap, ◌∙◌, subst}
use Rattle.std.specs.Prelude.{slice_get}
use Rattle.ms_live.specs.refinement.Ordered.{pick, tree_of, IsWithinArena}
use Rattle.ms_live.specs.declared.branch.Halves.{Halves}
use Rattle.ms_live.specs.declared.gaps.Live.{Live}
use Rattle.ms_live.proofs.OrderedLaws.{pick_law}
use Rattle.ms_live.proofs.Storing.{get_some}
use Rattle.ms_live.proofs.ids.Ids.nth.Goals as goal

pub pick-requires : goal.pick-requires
pick-requires c = record { within = subst (λ (nodes : List Halves). IsWithinArena (length nodes) (tree_of nodes c.self.inside.levels c.self.inside.root)) (sym c.as_slice.ensures.value) c.self.invariant.0.within }

pub unreachable-requires : goal.unreachable-requires
unreachable-requires c =
    let s = c.self.inside in
    let e = ap (λ (nodes : List Halves). pick s.levels c.args.i (tree_of nodes s.levels s.root)) c.as_slice.ensures.value in
    let l = pick_law s.levels 0 c.args.i (tree_of s.nodes.items s.levels s.root) c.self.invariant.0.in_order in
    get_some c.args.self.now c.args.i c.requires (sym (c.pick.ensures ∙ (e ∙ (l ∙ ap (λ (xs : List Live). slice_get xs c.args.i) c.self.view_is))) ∙ c.in_default.is)

pub returns : goal.returns
returns c =
    let s = c.self.inside in
    let e = ap (λ (nodes : List Halves). pick s.levels c.args.i (tree_of nodes s.levels s.root)) c.as_slice.ensures.value in
    let l = pick_law s.levels 0 c.args.i (tree_of s.nodes.items s.levels s.root) c.self.invariant.0.in_order in
    sym (c.pick.ensures ∙ (e ∙ (l ∙ ap (λ (xs : List Live). slice_get xs c.args.i) c.self.view_is))) ∙ c.in-Some.is
