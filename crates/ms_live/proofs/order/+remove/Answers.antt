use Rattle.std.proofs.Common.{◌+◌, ◌-◌, ℕ, arith, ap, ◌∙◌}
use Rattle.ms_live.specs.refinement.Ordered.{at, remove, tree_of}
use Rattle.ms_live.proofs.OrderedSteps.{middle_is, others_kept, parts, removed_lower, removed_upper}
use Rattle.ms_live.proofs.order.+remove.Goals as goal
use Rattle.ms_live.proofs.Found.{other_id}

pub overflow_add-middle : goal.overflow_add-middle
overflow_add-middle t c = let m = middle_is c.args.level c.args.low (omega arith) (omega arith) c.requires.range in omega (arith, c.half.ensures, m.fits)

pub remove-below-requires : goal.remove-below-requires
remove-below-requires t c =
    let m = middle_is c.args.level c.args.low (omega arith) (omega arith) c.requires.range in
    let p = parts c.args.nodes.now c.args.level (c.args.level - 1) c.in-Some.root c.args.branch (omega arith) c.in-Some.is c.requires.within c.requires.apart in
    (omega arith, (omega arith, (omega (arith, m.lower), (p.within_lower, p.apart_lower))))

pub remove-below-requires-else-id-middle : goal.remove-below-requires-else-id-middle
remove-below-requires-else-id-middle t c =
    let m = middle_is c.args.level c.args.low (omega arith) (omega arith) c.requires.range in
    let p = parts c.args.nodes.now c.args.level (c.args.level - 1) c.in-Some.root c.args.branch (omega arith) c.in-Some.is c.requires.within c.requires.apart in
    (omega arith, (omega arith, (omega (arith, m.upper, c.half.ensures), (p.within_upper, p.apart_upper))))

pub returns-then-id-middle-clause-rest : goal.returns-then-id-middle-clause-rest
returns-then-id-middle-clause-rest t c =
    let p = parts c.args.nodes.now c.args.level (c.args.level - 1) c.in-Some.root c.args.branch (omega arith) c.in-Some.is c.requires.within c.requires.apart in
    removed_lower c.args.nodes.now c.remove-below.new.nodes c.args.level (c.args.level - 1) c.args.low c.args.id c.in-Some.root c.args.branch c.remove-below.result.rest (omega arith) c.in-Some.is (other_id c.in-Some.root.segment.id c.args.id c.if-root-id.false) (omega (arith, c.half.ensures)) p (omega (arith, p.here)) c.remove-below.ensures.rest c.remove-below.ensures.others c.fewer.result c.fewer.ensures

pub returns-then-id-middle-clause-others : goal.returns-then-id-middle-clause-others
returns-then-id-middle-clause-others t c = others_kept c.args.nodes.now c.remove-below.new.nodes c.args.level (c.args.level - 1) c.in-Some.root c.args.branch (tree_of c.args.nodes.now (c.args.level - 1) (at c.args.nodes.now c.in-Some.root.at).lower) _ (omega arith) c.in-Some.is (λ j l u. l) c.remove-below.ensures.others

pub returns-else-id-middle-clause-rest : goal.returns-else-id-middle-clause-rest
returns-else-id-middle-clause-rest t c =
    let p = parts c.args.nodes.now c.args.level (c.args.level - 1) c.in-Some.root c.args.branch (omega arith) c.in-Some.is c.requires.within c.requires.apart in
    removed_upper c.args.nodes.now c.remove-below-else-id-middle.new.nodes c.args.level (c.args.level - 1) c.args.low c.args.id c.in-Some.root c.args.branch c.remove-below-else-id-middle.result.rest (omega arith) c.in-Some.is (other_id c.in-Some.root.segment.id c.args.id c.if-root-id.false) (omega (arith, c.half.ensures)) p (omega (arith, p.here))
    (c.remove-below-else-id-middle.ensures.rest ∙ ap (λ (h : ℕ). remove (c.args.level - 1) (c.args.low + h) c.args.id (tree_of c.args.nodes.now (c.args.level - 1) (at c.args.nodes.now c.in-Some.root.at).upper)) c.half.ensures) c.remove-below-else-id-middle.ensures.others c.fewer-else-id-middle.result c.fewer-else-id-middle.ensures

pub returns-else-id-middle-clause-others : goal.returns-else-id-middle-clause-others
returns-else-id-middle-clause-others t c = others_kept c.args.nodes.now c.remove-below-else-id-middle.new.nodes c.args.level (c.args.level - 1) c.in-Some.root c.args.branch (tree_of c.args.nodes.now (c.args.level - 1) (at c.args.nodes.now c.in-Some.root.at).upper) _ (omega arith) c.in-Some.is (λ j l u. u) c.remove-below-else-id-middle.ensures.others
