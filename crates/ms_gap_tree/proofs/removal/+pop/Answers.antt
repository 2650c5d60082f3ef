use Rattle.std.proofs.Common.{◌-◌, Option, Some, arith, ap, sym, ◌∙◌, subst, length, refl}
use Rattle.ms_gap_tree.specs.refinement.Arena.{tree_of}
use Rattle.ms_gap_tree.specs.refinement.Tree.{has, IsWithinArena}
use Rattle.ms_gap_tree.specs.declared.node.Link.{Link}
use Rattle.ms_gap_tree.proofs.Levels.{tree_link}
use Rattle.ms_gap_tree.proofs.PopSteps.{popped_left, popped_right, popped_last, popped_others, freed_left, freed_right}
use Rattle.ms_gap_tree.proofs.removal.+pop.Goals as goal

pub returns-in-Some-clause-rest : goal.returns-in-Some-clause-rest
returns-in-Some-clause-rest t c = popped_left c.args.nodes.now c.pop-below.new.nodes c.args.level (c.args.level - 1) c.args.root c.in-Some.child c.pop-below.result.rest (omega arith) c.in-Some.is (sym c.is_first.ensures ∙ c.if-is_first.true) c.requires.apart (let w = subst (IsWithinArena (length c.args.nodes.now)) (tree_link c.args.nodes.now c.args.level c.args.root (Some c.args.root) refl (omega arith)) c.requires.within in omega (arith, w.0)) c.pop-below.ensures.rest c.pop-below.ensures.others

pub returns-in-Some-clause-slot : goal.returns-in-Some-clause-slot
returns-in-Some-clause-slot t c = freed_left c.args.nodes.now c.args.level (c.args.level - 1) c.args.root c.in-Some.child c.pop-below.result.slot (omega arith) c.in-Some.is (sym c.is_first.ensures ∙ c.if-is_first.true) c.pop-below.ensures.slot

pub returns-in-Some-clause-others : goal.returns-in-Some-clause-others
returns-in-Some-clause-others t c = popped_others c.args.nodes.now c.pop-below.new.nodes c.args.level (c.args.level - 1) c.args.root (tree_of c.args.nodes.now (c.args.level - 1) (Some c.in-Some.child)) _ (omega arith) (λ j l r. sym (ap (λ (x : Option Link). has j (tree_of c.args.nodes.now (c.args.level - 1) x)) c.in-Some.is) ∙ l) c.pop-below.ensures.others

pub returns-in-None-right-clause-rest : goal.returns-in-None-right-clause-rest
returns-in-None-right-clause-rest t c = (popped_last c.args.nodes.now c.args.level (c.args.level - 1) c.args.root (omega arith) c.in-None-right.is (sym c.is_first.ensures ∙ c.if-is_first.false)).0

pub returns-in-None-right-clause-slot : goal.returns-in-None-right-clause-slot
returns-in-None-right-clause-slot t c = (popped_last c.args.nodes.now c.args.level (c.args.level - 1) c.args.root (omega arith) c.in-None-right.is (sym c.is_first.ensures ∙ c.if-is_first.false)).1

pub returns-in-Some-right-clause-rest : goal.returns-in-Some-right-clause-rest
returns-in-Some-right-clause-rest t c = popped_right c.args.nodes.now c.pop-below-in-Some-right.new.nodes c.args.level (c.args.level - 1) c.args.root c.in-Some-right.child c.pop-below-in-Some-right.result.rest (omega arith) c.in-Some-right.is (sym c.is_first.ensures ∙ c.if-is_first.false) c.requires.apart (let w = subst (IsWithinArena (length c.args.nodes.now)) (tree_link c.args.nodes.now c.args.level c.args.root (Some c.args.root) refl (omega arith)) c.requires.within in omega (arith, w.0)) c.pop-below-in-Some-right.ensures.rest c.pop-below-in-Some-right.ensures.others

pub returns-in-Some-right-clause-slot : goal.returns-in-Some-right-clause-slot
returns-in-Some-right-clause-slot t c = freed_right c.args.nodes.now c.args.level (c.args.level - 1) c.args.root c.in-Some-right.child c.pop-below-in-Some-right.result.slot (omega arith) c.in-Some-right.is (sym c.is_first.ensures ∙ c.if-is_first.false) c.pop-below-in-Some-right.ensures.slot

pub returns-in-Some-right-clause-others : goal.returns-in-Some-right-clause-others
returns-in-Some-right-clause-others t c = popped_others c.args.nodes.now c.pop-below-in-Some-right.new.nodes c.args.level (c.args.level - 1) c.args.root (tree_of c.args.nodes.now (c.args.level - 1) (Some c.in-Some-right.child)) _ (omega arith) (λ j l r. sym (ap (λ (x : Option Link). has j (tree_of c.args.nodes.now (c.args.level - 1) x)) c.in-Some-right.is) ∙ r) c.pop-below-in-Some-right.ensures.others
