use Rattle.std.proofs.Common.{◌+◌, ◌-◌, ℕ, arith, ap, sym, ◌∙◌, subst}
use Rattle.ms_live.specs.refinement.Ordered.{at, has, push, tree_of, IsInOrder}
use Rattle.ms_live.proofs.OrderedSteps.{linked, middle_is, other_slot, parts, pushed_first, pushed_lower, pushed_others, pushed_upper}
use Rattle.ms_live.proofs.OrderedLaws.{few_halves}
use Rattle.ms_live.proofs.order.+push.Goals as goal

pub overflow_add-middle : goal.overflow_add-middle
overflow_add-middle t c = let m = middle_is c.args.level c.args.low (omega arith) (omega arith) c.requires.range in omega (arith, c.half.ensures, m.fits)

pub overflow_add-more : goal.overflow_add-more
overflow_add-more t c =
    let tree = linked c.args.nodes.now c.args.level (c.args.level - 1) c.in-Some.root c.args.branch (omega arith) c.in-Some.is in
    let f = few_halves c.args.level (c.args.level - 1) c.args.low c.in-Some.root _ _ (tree_of c.args.nodes.now c.args.level c.args.branch) (omega arith) tree c.requires.in_order c.requires.few in
    omega (arith, f.count)

pub push-lower-requires : goal.push-lower-requires
push-lower-requires t c =
    let m = middle_is c.args.level c.args.low (omega arith) (omega arith) c.requires.range in
    let p = parts c.args.nodes.now c.args.level (c.args.level - 1) c.in-Some.root c.args.branch (omega arith) c.in-Some.is c.requires.within c.requires.apart in
    let tree = linked c.args.nodes.now c.args.level (c.args.level - 1) c.in-Some.root c.args.branch (omega arith) c.in-Some.is in
    let o = other_slot c.args.slot c.in-Some.root.at c.in-Some.root.count c.in-Some.root.segment _ _ (sym (ap (has c.args.slot) tree) ∙ c.requires.fresh) in
    let f = few_halves c.args.level (c.args.level - 1) c.args.low c.in-Some.root _ _ (tree_of c.args.nodes.now c.args.level c.args.branch) (omega arith) tree c.requires.in_order c.requires.few in
    (omega arith, (omega arith, (omega (arith, m.lower), (p.within_lower, (p.apart_lower, (o.1, (c.requires.there, (f.in_order_lower, f.few_lower))))))))

pub push-upper-requires : goal.push-upper-requires
push-upper-requires t c =
    let m = middle_is c.args.level c.args.low (omega arith) (omega arith) c.requires.range in
    let p = parts c.args.nodes.now c.args.level (c.args.level - 1) c.in-Some.root c.args.branch (omega arith) c.in-Some.is c.requires.within c.requires.apart in
    let tree = linked c.args.nodes.now c.args.level (c.args.level - 1) c.in-Some.root c.args.branch (omega arith) c.in-Some.is in
    let o = other_slot c.args.slot c.in-Some.root.at c.in-Some.root.count c.in-Some.root.segment _ _ (sym (ap (has c.args.slot) tree) ∙ c.requires.fresh) in
    let f = few_halves c.args.level (c.args.level - 1) c.args.low c.in-Some.root _ _ (tree_of c.args.nodes.now c.args.level c.args.branch) (omega arith) tree c.requires.in_order c.requires.few in
    let in_order = subst (λ (h : ℕ). IsInOrder (c.args.level - 1) (c.args.low + h) (tree_of c.args.nodes.now (c.args.level - 1) (at c.args.nodes.now c.in-Some.root.at).upper)) (sym c.half.ensures) f.in_order_upper in
    (omega arith, (omega arith, (omega (arith, m.upper, c.half.ensures), (p.within_upper, (p.apart_upper, (o.2, (c.requires.there, (in_order, f.few_upper))))))))

pub returns-in-None-clause-tree : goal.returns-in-None-clause-tree
returns-in-None-clause-tree t c = pushed_first c.args.nodes.now c.args.level (c.args.level - 1) c.args.low c.args.slot c.args.new c.args.branch (omega arith) c.in-None.is c.requires.there

pub returns-then-new-middle-clause-tree : goal.returns-then-new-middle-clause-tree
returns-then-new-middle-clause-tree t c =
    let p = parts c.args.nodes.now c.args.level (c.args.level - 1) c.in-Some.root c.args.branch (omega arith) c.in-Some.is c.requires.within c.requires.apart in
    pushed_lower c.args.nodes.now c.push-lower.new.nodes c.args.level (c.args.level - 1) c.args.low c.args.slot c.in-Some.root c.args.new c.args.branch c.push-lower.result (omega arith) c.in-Some.is p c.requires.fresh (omega (arith, p.here)) (omega (arith, c.half.ensures)) c.push-lower.ensures.tree c.push-lower.ensures.others

pub returns-then-new-middle-clause-others : goal.returns-then-new-middle-clause-others
returns-then-new-middle-clause-others t c = pushed_others c.args.nodes.now c.push-lower.new.nodes c.args.level (c.args.level - 1) c.args.slot c.in-Some.root c.args.branch (tree_of c.args.nodes.now (c.args.level - 1) (at c.args.nodes.now c.in-Some.root.at).lower) _ (omega arith) c.in-Some.is (λ j l u. l) c.push-lower.ensures.others

pub returns-else-new-middle-clause-tree : goal.returns-else-new-middle-clause-tree
returns-else-new-middle-clause-tree t c =
    let p = parts c.args.nodes.now c.args.level (c.args.level - 1) c.in-Some.root c.args.branch (omega arith) c.in-Some.is c.requires.within c.requires.apart in
    pushed_upper c.args.nodes.now c.push-upper.new.nodes c.args.level (c.args.level - 1) c.args.low c.args.slot c.in-Some.root c.args.new c.args.branch c.push-upper.result (omega arith) c.in-Some.is p c.requires.fresh (omega (arith, p.here)) (omega (arith, c.half.ensures)) (c.push-upper.ensures.tree ∙ ap (λ (h : ℕ). push (c.args.level - 1) (c.args.low + h) c.args.slot c.args.new (tree_of c.args.nodes.now (c.args.level - 1) (at c.args.nodes.now c.in-Some.root.at).upper)) c.half.ensures) c.push-upper.ensures.others

pub returns-else-new-middle-clause-others : goal.returns-else-new-middle-clause-others
returns-else-new-middle-clause-others t c = pushed_others c.args.nodes.now c.push-upper.new.nodes c.args.level (c.args.level - 1) c.args.slot c.in-Some.root c.args.branch (tree_of c.args.nodes.now (c.args.level - 1) (at c.args.nodes.now c.in-Some.root.at).upper) _ (omega arith) c.in-Some.is (λ j l u. u) c.push-upper.ensures.others
