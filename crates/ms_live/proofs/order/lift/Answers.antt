use Rattle.std.proofs.Common.{◌+◌, ℕ, Some, length, arith, ap, ◌∙◌}
use Rattle.ms_live.specs.refinement.Ordered.{freed, has, pop, shape, tree_of}
use Rattle.ms_gap_tree.proofs.Pool.{has_within}
use Rattle.ms_live.proofs.OrderedSlots.{freed_gone, freed_of}
use Rattle.ms_live.proofs.OrderedSteps.{lifted_is}
use Rattle.ms_live.proofs.order.lift.Goals as goal

pub bounds-nodes-popped : goal.bounds-nodes-popped
bounds-nodes-popped c =
    let t = tree_of c.args.nodes.now c.args.level (Some c.args.root) in
    let f = has_within (length c.args.nodes.now) (freed t) (shape t) c.requires.within (freed_of c.args.nodes.now c.args.level c.args.root) in
    omega (arith, c.pop-popped.ensures.slot, f)

pub returns : goal.returns
returns c =
    let t = tree_of c.args.nodes.now c.args.level (Some c.args.root) in
    let f = has_within (length c.args.nodes.now) (freed t) (shape t) c.requires.within (freed_of c.args.nodes.now c.args.level c.args.root) in
    let gone = ap (λ (j : ℕ). has j (pop t)) c.pop-popped.ensures.slot ∙ freed_gone t c.requires.apart in
    record { tree = lifted_is c.args.nodes.now c.pop-popped.new.nodes c.args.level (c.args.level + 1) c.args.root c.pop-popped.result.slot c.pop-popped.result.rest (omega arith) (omega (arith, c.pop-popped.ensures.slot, f)) c.pop-popped.ensures.rest c.pop-popped.ensures.slot gone }
