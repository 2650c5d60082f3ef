use Rattle.std.proofs.Common.{◌-◌, Option, Some, length, arith, ap, sym, ◌∙◌, subst, refl}
use Rattle.ms_live.specs.refinement.Ordered.{has, tree_of, IsWithinArena}
use Rattle.ms_live.specs.declared.branch.Branch.{Branch}
use Rattle.ms_live.proofs.OrderedSteps.{linked, others_kept, popped_last, popped_lower, popped_upper}
use Rattle.ms_live.proofs.order.+pop.Goals as goal

pub returns-in-Some-clause-rest : goal.returns-in-Some-clause-rest
returns-in-Some-clause-rest t c =
    let w = subst (IsWithinArena (length c.args.nodes.now)) (linked c.args.nodes.now c.args.level (c.args.level - 1) c.args.root (Some c.args.root) (omega arith) refl) c.requires.within in
    popped_lower c.args.nodes.now c.pop-below.new.nodes c.args.level (c.args.level - 1) c.args.root c.in-Some.child c.pop-below.result.rest (omega arith) c.in-Some.is c.requires.apart (omega (arith, w.0)) c.pop-below.ensures.rest c.pop-below.ensures.others c.fewer.result c.fewer.ensures

pub returns-in-Some-clause-others : goal.returns-in-Some-clause-others
returns-in-Some-clause-others t c = others_kept c.args.nodes.now c.pop-below.new.nodes c.args.level (c.args.level - 1) c.args.root (Some c.args.root) (tree_of c.args.nodes.now (c.args.level - 1) (Some c.in-Some.child)) _ (omega arith) refl (λ j l u. sym (ap (λ (x : Option Branch). has j (tree_of c.args.nodes.now (c.args.level - 1) x)) c.in-Some.is) ∙ l) c.pop-below.ensures.others

pub returns-in-None-upper-clause-rest : goal.returns-in-None-upper-clause-rest
returns-in-None-upper-clause-rest t c = (popped_last c.args.nodes.now c.args.level (c.args.level - 1) c.args.root (omega arith) c.in-None.is c.in-None-upper.is).0

pub returns-in-None-upper-clause-slot : goal.returns-in-None-upper-clause-slot
returns-in-None-upper-clause-slot t c = (popped_last c.args.nodes.now c.args.level (c.args.level - 1) c.args.root (omega arith) c.in-None.is c.in-None-upper.is).1

pub returns-in-Some-upper-clause-rest : goal.returns-in-Some-upper-clause-rest
returns-in-Some-upper-clause-rest t c =
    let w = subst (IsWithinArena (length c.args.nodes.now)) (linked c.args.nodes.now c.args.level (c.args.level - 1) c.args.root (Some c.args.root) (omega arith) refl) c.requires.within in
    popped_upper c.args.nodes.now c.pop-below-in-Some-upper.new.nodes c.args.level (c.args.level - 1) c.args.root c.in-Some-upper.child c.pop-below-in-Some-upper.result.rest (omega arith) c.in-None.is c.in-Some-upper.is c.requires.apart (omega (arith, w.0)) c.pop-below-in-Some-upper.ensures.rest c.fewer-in-Some-upper.result c.fewer-in-Some-upper.ensures

pub returns-in-Some-upper-clause-others : goal.returns-in-Some-upper-clause-others
returns-in-Some-upper-clause-others t c = others_kept c.args.nodes.now c.pop-below-in-Some-upper.new.nodes c.args.level (c.args.level - 1) c.args.root (Some c.args.root) (tree_of c.args.nodes.now (c.args.level - 1) (Some c.in-Some-upper.child)) _ (omega arith) refl (λ j l u. sym (ap (λ (x : Option Branch). has j (tree_of c.args.nodes.now (c.args.level - 1) x)) c.in-Some-upper.is) ∙ u) c.pop-below-in-Some-upper.ensures.others
