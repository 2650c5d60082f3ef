use Rattle.std.proofs.Common.{◌≡◌, ℕ, List, Some, IsSome, true, refl, arith, sym, ap, ◌∙◌, subst}
use Rattle.ms_gap_tree.proofs.Gains.{Gains}
use Rattle.ms_live.specs.refinement.Ordered.{remove, seek, segments, shape, tree_of, IsStored}
use Rattle.ms_live.specs.Place.{contains_id, without}
use Rattle.ms_live.specs.declared.gaps.Live.{Live}
use Rattle.ms_live.specs.declared.ids.Ids.TheInside.{Inside}
use Rattle.ms_live.proofs.OrderedLaws.{length_remove}
use Rattle.ms_live.proofs.OrderedSlots.{remove_loses}
use Rattle.ms_live.proofs.Storing.{half_upto, segments_taken, stored_taken, there_is}
use Rattle.ms_live.proofs.ids.Ids.remove.Goals as goal

-- the tree has the identity
there : (s : Inside) (now : List Live) (id : ℕ) → IsStored s.nodes.items s.levels s.root s.free.items → segments (tree_of s.nodes.items s.levels s.root) ≡ now → contains_id id now ≡ true → (x : Live) × (seek s.levels 0 id (tree_of s.nodes.items s.levels s.root) ≡ Some x)
there s now id stored e h = there_is s.nodes.items s.levels id s.root s.free.items stored (ap (contains_id id) e ∙ h)

pub take-rest-requires-clause-range : goal.take-rest-requires-clause-range
take-rest-requires-clause-range c = half_upto c.self.inside.levels c.self.invariant.0.levels

pub take-rest-requires-clause-found : goal.take-rest-requires-clause-found
take-rest-requires-clause-found c =
    let s = c.self.inside in
    let x = there s c.args.self.now c.args.id c.self.invariant.0 c.self.view_is c.requires in
    subst IsSome (sym (remove_loses s.levels 0 c.args.id (tree_of s.nodes.items s.levels s.root) x.0 x.1).1) refl

pub push_reserved-requires : goal.push_reserved-requires
push_reserved-requires c =
    let s = c.self.inside in
    let x = there s c.args.self.now c.args.id c.self.invariant.0 c.self.view_is c.requires in
    let less = length_remove s.levels 0 c.args.id (tree_of s.nodes.items s.levels s.root) x.0 x.1 in
    let count = c.self.invariant.0.pool.count in
    let few = c.self.invariant.0.few in
    let room = c.self.invariant.2 in
    omega (arith, c.self.inside.free.ok.0)

pub invariant_of-self : goal.invariant_of-self
invariant_of-self c =
    let s = c.self.inside in
    let x = there s c.args.self.now c.args.id c.self.invariant.0 c.self.view_is c.requires in
    let t = tree_of s.nodes.items s.levels s.root in
    let loses = remove_loses s.levels 0 c.args.id t x.0 x.1 in
    let same : Some c.take-rest.result.1 ≡ Some loses.0 = c.take-rest.ensures.slot ∙ loses.1 in
    let slot : c.take-rest.result.1 ≡ loses.0 = cc in
    let gains = subst (λ (j : ℕ). Gains j (shape (remove s.levels 0 c.args.id t)) (shape t)) (sym slot) loses.2 in
    let nodes = c.self.invariant.1 in
    let free = c.self.invariant.2 in (
      subst (IsStored c.take-rest.new.nodes.items s.levels c.take-rest.result.0) (sym c.push_reserved.ensures.items)
          (stored_taken s.nodes.items c.take-rest.new.nodes.items s.levels c.args.id c.take-rest.result.1 s.root c.take-rest.result.0 s.free.items x.0 c.self.invariant.0 x.1 gains c.take-rest.ensures.tree c.take-rest.ensures.length),
      omega (arith, c.take-rest.ensures.capacity),
      omega (arith, c.push_reserved.ensures.capacity),
    )

pub returns : goal.returns
returns c =
    let s = c.self.inside in
    segments_taken s.nodes.items c.take-rest.new.nodes.items s.levels c.args.id s.root c.take-rest.result.0 s.free.items c.self.invariant.0 c.take-rest.ensures.tree ∙ ap (without c.args.id) c.self.view_is
