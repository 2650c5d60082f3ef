use Rattle.std.proofs.Common.{◌+◌, ℕ, ◌-◌, arith, ◌∙◌, ap}
use Rattle.std.proofs.lemmas.Nat.{pow_pos}
use Rattle.ms_gap_tree.specs.refinement.Arena.{at, tree_of}
use Rattle.ms_gap_tree.specs.refinement.Tree.{insert}
use Rattle.ms_gap_tree.proofs.Inserted.{parts, inserted_left, inserted_right, inserted_first, others_left, others_right}
use Rattle.ms_gap_tree.proofs.Levels.{halves}
use Rattle.ms_gap_tree.proofs.tree.+insert.Goals as goal

pub overflow_add-middle : goal.overflow_add-middle
overflow_add-middle t c = let h = halves c.args.level (omega arith) in omega (arith, c.half.ensures, pow_pos (c.args.level - 1))

pub insert-left-requires : goal.insert-left-requires
insert-left-requires t c =
    let h = halves c.args.level (omega arith) in
    let p = parts c.args.nodes.now c.args.level (c.args.level - 1) c.args.slot c.in-Some.root c.args.link (omega arith) c.in-Some.is c.requires.within c.requires.apart c.requires.fresh in
    (omega arith, (omega arith, (omega arith, (p.within_left, (p.apart_left, (p.slot_left, c.requires.there))))))

pub insert-right-requires : goal.insert-right-requires
insert-right-requires t c =
    let h = halves c.args.level (omega arith) in
    let p = parts c.args.nodes.now c.args.level (c.args.level - 1) c.args.slot c.in-Some.root c.args.link (omega arith) c.in-Some.is c.requires.within c.requires.apart c.requires.fresh in
    (omega arith, (omega arith, (omega (arith, c.half.ensures), (p.within_right, (p.apart_right, (p.slot_right, c.requires.there))))))

pub returns-in-None-clause-tree : goal.returns-in-None-clause-tree
returns-in-None-clause-tree t c = inserted_first c.args.nodes.now c.args.level (c.args.level - 1) c.args.low c.args.slot c.args.new c.args.link (omega arith) c.in-None.is c.requires.there

pub returns-then-rest-middle-clause-tree : goal.returns-then-rest-middle-clause-tree
returns-then-rest-middle-clause-tree t c =
    let p = parts c.args.nodes.now c.args.level (c.args.level - 1) c.args.slot c.in-Some.root c.args.link (omega arith) c.in-Some.is c.requires.within c.requires.apart c.requires.fresh in
    inserted_left c.args.nodes.now c.insert-left.new.nodes c.args.level (c.args.level - 1) c.args.low c.args.slot c.in-Some.root c.args.new c.upper-top.result c.lower-rest.result c.args.link c.insert-left.result (omega arith) c.in-Some.is p (omega (arith, p.here)) c.upper-top.ensures c.lower-rest.ensures (omega (arith, c.half.ensures)) c.insert-left.ensures.tree c.insert-left.ensures.others

pub returns-then-rest-middle-clause-others : goal.returns-then-rest-middle-clause-others
returns-then-rest-middle-clause-others t c = others_left c.args.nodes.now c.insert-left.new.nodes c.args.level (c.args.level - 1) c.args.slot c.in-Some.root c.args.link _ (omega arith) c.in-Some.is c.insert-left.ensures.others

pub returns-else-rest-middle-clause-tree : goal.returns-else-rest-middle-clause-tree
returns-else-rest-middle-clause-tree t c =
    let p = parts c.args.nodes.now c.args.level (c.args.level - 1) c.args.slot c.in-Some.root c.args.link (omega arith) c.in-Some.is c.requires.within c.requires.apart c.requires.fresh in
    inserted_right c.args.nodes.now c.insert-right.new.nodes c.args.level (c.args.level - 1) c.args.low c.args.slot c.in-Some.root c.args.new c.upper-top.result c.lower-rest.result c.args.link c.insert-right.result (omega arith) c.in-Some.is p (omega (arith, p.here)) c.upper-top.ensures c.lower-rest.ensures (omega (arith, c.half.ensures)) (c.insert-right.ensures.tree ∙ ap (λ (m : ℕ). insert (c.args.level - 1) (c.args.low + m) c.args.slot c.lower-rest.result (tree_of c.args.nodes.now (c.args.level - 1) (at c.args.nodes.now c.in-Some.root.at).right)) c.half.ensures) c.insert-right.ensures.others

pub returns-else-rest-middle-clause-others : goal.returns-else-rest-middle-clause-others
returns-else-rest-middle-clause-others t c = others_right c.args.nodes.now c.insert-right.new.nodes c.args.level (c.args.level - 1) c.args.slot c.in-Some.root c.args.link _ (omega arith) c.in-Some.is c.insert-right.ensures.others
