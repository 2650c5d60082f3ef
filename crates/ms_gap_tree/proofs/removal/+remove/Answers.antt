use Rattle.std.proofs.Common.{◌+◌, ◌-◌, ℕ, Option, arith, ap, sym, ◌∙◌}
use Rattle.std.proofs.lemmas.Nat.{pow_pos}
use Rattle.ms_gap_tree.specs.refinement.Arena.{at, tree_of}
use Rattle.ms_gap_tree.specs.refinement.Tree.{has, remove}
use Rattle.ms_gap_tree.specs.declared.node.Link.{Link}
use Rattle.ms_gap_tree.proofs.Levels.{halves}
use Rattle.ms_gap_tree.proofs.PopSteps.{popped_others}
use Rattle.ms_gap_tree.proofs.RemoveSteps.{halves_of, removed_left, removed_right}
use Rattle.ms_gap_tree.proofs.removal.+remove.Goals as goal

pub overflow_add-middle : goal.overflow_add-middle
overflow_add-middle t c = let h = halves c.args.level (omega arith) in omega (arith, c.half.ensures, pow_pos (c.args.level - 1))

pub remove-below-requires : goal.remove-below-requires
remove-below-requires t c =
    let h = halves c.args.level (omega arith) in
    let p = halves_of c.args.nodes.now c.args.level (c.args.level - 1) c.in-Some.root c.args.link (omega arith) c.in-Some.is c.requires.within c.requires.apart in
    (omega arith, (omega arith, (omega arith, (p.within_left, p.apart_left))))

pub remove-below-requires-else-key-middle : goal.remove-below-requires-else-key-middle
remove-below-requires-else-key-middle t c =
    let h = halves c.args.level (omega arith) in
    let p = halves_of c.args.nodes.now c.args.level (c.args.level - 1) c.in-Some.root c.args.link (omega arith) c.in-Some.is c.requires.within c.requires.apart in
    (omega arith, (omega arith, (omega (arith, c.half.ensures), (p.within_right, p.apart_right))))

pub returns-then-key-middle-clause-rest : goal.returns-then-key-middle-clause-rest
returns-then-key-middle-clause-rest t c =
    let p = halves_of c.args.nodes.now c.args.level (c.args.level - 1) c.in-Some.root c.args.link (omega arith) c.in-Some.is c.requires.within c.requires.apart in
    removed_left c.args.nodes.now c.remove-below.new.nodes c.args.level (c.args.level - 1) c.args.low c.args.key c.in-Some.root c.args.link c.remove-below.result.rest (omega arith) c.in-Some.is c.if-key-root.false (omega (arith, c.half.ensures)) c.requires.apart (omega (arith, p.here)) c.remove-below.ensures.rest c.remove-below.ensures.others

pub returns-then-key-middle-clause-others : goal.returns-then-key-middle-clause-others
returns-then-key-middle-clause-others t c j q =
    popped_others c.args.nodes.now c.remove-below.new.nodes c.args.level (c.args.level - 1) c.in-Some.root (tree_of c.args.nodes.now (c.args.level - 1) (at c.args.nodes.now c.in-Some.root.at).left) _ (omega arith) (λ x l r. l) c.remove-below.ensures.others j (sym (ap (λ (x : Option Link). has j (tree_of c.args.nodes.now c.args.level x)) c.in-Some.is) ∙ q)

pub returns-else-key-middle-clause-rest : goal.returns-else-key-middle-clause-rest
returns-else-key-middle-clause-rest t c =
    let p = halves_of c.args.nodes.now c.args.level (c.args.level - 1) c.in-Some.root c.args.link (omega arith) c.in-Some.is c.requires.within c.requires.apart in
    removed_right c.args.nodes.now c.remove-below-else-key-middle.new.nodes c.args.level (c.args.level - 1) c.args.low c.args.key c.in-Some.root c.args.link c.remove-below-else-key-middle.result.rest (omega arith) c.in-Some.is c.if-key-root.false (omega (arith, c.half.ensures)) c.requires.apart (omega (arith, p.here))
    (c.remove-below-else-key-middle.ensures.rest ∙ ap (λ (m : ℕ). remove (c.args.level - 1) (c.args.low + m) c.args.key (tree_of c.args.nodes.now (c.args.level - 1) (at c.args.nodes.now c.in-Some.root.at).right)) c.half.ensures) c.remove-below-else-key-middle.ensures.others

pub returns-else-key-middle-clause-others : goal.returns-else-key-middle-clause-others
returns-else-key-middle-clause-others t c j q =
    popped_others c.args.nodes.now c.remove-below-else-key-middle.new.nodes c.args.level (c.args.level - 1) c.in-Some.root (tree_of c.args.nodes.now (c.args.level - 1) (at c.args.nodes.now c.in-Some.root.at).right) _ (omega arith) (λ x l r. r) c.remove-below-else-key-middle.ensures.others j (sym (ap (λ (x : Option Link). has j (tree_of c.args.nodes.now c.args.level x)) c.in-Some.is) ∙ q)
