use Rattle.std.proofs.Common.{◌<◌, ◌++◌, ◌∷◌, [], List, length, arith, sym, ap, ◌∙◌, subst}
use Rattle.std.proofs.lemmas.List.Elements.{All-same}
use Rattle.ms_live.specs.refinement.Ordered.{has, segments, tree_of, IsWithinArena}
use Rattle.ms_live.specs.declared.gaps.Live.{Live}
use Rattle.ms_live.specs.declared.gaps.TheConstants.{MOST_LIVE}
use Rattle.ms_live.proofs.Storing.{half_upto, segments_put, spare_is, stored_grown, stored_put}
use Rattle.ms_live.proofs.ids.Ids.push.Goals as goal

pub put-self-inside-requires-clause-range : goal.put-self-inside-requires-clause-range
put-self-inside-requires-clause-range c = half_upto c.widen-grown.result.levels c.widen-grown.ensures.levels

pub put-self-inside-requires-clause-within : goal.put-self-inside-requires-clause-within
put-self-inside-requires-clause-within c =
    let s = c.self.inside in
    let w = c.widen-grown in
    let now = tree_of w.new.nodes.items w.result.levels w.result.root in
    let grown = stored_grown s.nodes.items w.new.nodes.items s.levels w.result.levels s.root w.result.root s.free.items c.self.invariant.0 w.ensures.same w.ensures.within w.ensures.apart w.ensures.in_order w.ensures.slots w.ensures.levels w.ensures.length in
    let few : length (segments now) < MOST_LIVE = let e = ap length (w.ensures.same ∙ c.self.view_is) in let f = c.requires.few in omega arith in
    let spare = spare_is w.new.nodes.items c.spare-slot.new.nodes.items w.result.levels w.result.root s.free.items c.spare-slot.new.free.items c.spare-slot.result grown few c.spare-slot.ensures.slot in
    subst (IsWithinArena (length c.spare-slot.new.nodes.items)) (sym spare.same) spare.within

pub put-self-inside-requires-clause-fresh : goal.put-self-inside-requires-clause-fresh
put-self-inside-requires-clause-fresh c =
    let s = c.self.inside in
    let w = c.widen-grown in
    let now = tree_of w.new.nodes.items w.result.levels w.result.root in
    let grown = stored_grown s.nodes.items w.new.nodes.items s.levels w.result.levels s.root w.result.root s.free.items c.self.invariant.0 w.ensures.same w.ensures.within w.ensures.apart w.ensures.in_order w.ensures.slots w.ensures.levels w.ensures.length in
    let few : length (segments now) < MOST_LIVE = let e = ap length (w.ensures.same ∙ c.self.view_is) in let f = c.requires.few in omega arith in
    let spare = spare_is w.new.nodes.items c.spare-slot.new.nodes.items w.result.levels w.result.root s.free.items c.spare-slot.new.free.items c.spare-slot.result grown few c.spare-slot.ensures.slot in
    ap (has c.spare-slot.result) spare.same ∙ spare.next.fresh

pub invariant_of-self : goal.invariant_of-self
invariant_of-self c =
    let s = c.self.inside in
    let w = c.widen-grown in
    let now = tree_of w.new.nodes.items w.result.levels w.result.root in
    let grown = stored_grown s.nodes.items w.new.nodes.items s.levels w.result.levels s.root w.result.root s.free.items c.self.invariant.0 w.ensures.same w.ensures.within w.ensures.apart w.ensures.in_order w.ensures.slots w.ensures.levels w.ensures.length in
    let few : length (segments now) < MOST_LIVE = let e = ap length (w.ensures.same ∙ c.self.view_is) in let f = c.requires.few in omega arith in
    let spare = spare_is w.new.nodes.items c.spare-slot.new.nodes.items w.result.levels w.result.root s.free.items c.spare-slot.new.free.items c.spare-slot.result grown few c.spare-slot.ensures.slot in
    let newest = All-same (λ (t : Live). t.id < c.args.segment.id) _ _ (w.ensures.same ∙ c.self.view_is) c.requires.newest in
    let nodes = c.self.invariant.1 in
    let free = c.self.invariant.2 in (
      stored_put w.new.nodes.items c.spare-slot.new.nodes.items c.put-self-inside.new.nodes.items w.result.levels w.result.root c.put-self-inside.result s.free.items c.spare-slot.new.free.items c.spare-slot.result c.args.segment grown spare newest w.ensures.room c.put-self-inside.ensures.tree c.put-self-inside.ensures.length,
      omega (arith, c.put-self-inside.ensures.capacity, c.spare-slot.ensures.nodes, w.ensures.capacity),
      omega (arith, c.spare-slot.ensures.free),
    )

pub returns : goal.returns
returns c =
    let s = c.self.inside in
    let w = c.widen-grown in
    let now = tree_of w.new.nodes.items w.result.levels w.result.root in
    let grown = stored_grown s.nodes.items w.new.nodes.items s.levels w.result.levels s.root w.result.root s.free.items c.self.invariant.0 w.ensures.same w.ensures.within w.ensures.apart w.ensures.in_order w.ensures.slots w.ensures.levels w.ensures.length in
    let few : length (segments now) < MOST_LIVE = let e = ap length (w.ensures.same ∙ c.self.view_is) in let f = c.requires.few in omega arith in
    let spare = spare_is w.new.nodes.items c.spare-slot.new.nodes.items w.result.levels w.result.root s.free.items c.spare-slot.new.free.items c.spare-slot.result grown few c.spare-slot.ensures.slot in
    let newest = All-same (λ (t : Live). t.id < c.args.segment.id) _ _ (w.ensures.same ∙ c.self.view_is) c.requires.newest in
    segments_put w.new.nodes.items c.spare-slot.new.nodes.items c.put-self-inside.new.nodes.items w.result.levels w.result.root c.put-self-inside.result s.free.items c.spare-slot.new.free.items c.spare-slot.result c.args.segment grown spare newest w.ensures.room c.put-self-inside.ensures.tree
    ∙ ap (λ (xs : List Live). xs ++ c.args.segment ∷ []) (w.ensures.same ∙ c.self.view_is)
