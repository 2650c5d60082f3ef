use Rattle.std.proofs.Common.{length, ◌-◌, arith, subst}
use Rattle.std.proofs.lemmas.Nat.{pow_pos}
use Rattle.ms_gap_tree.specs.refinement.Tree.{IsWithinArena}
use Rattle.ms_gap_tree.proofs.Levels.{tree_link, halves}
use Rattle.ms_gap_tree.proofs.nearest.+last.Goals as goal

pub overflow_add-middle : goal.overflow_add-middle
overflow_add-middle t c = let h = halves c.args.level (omega arith) in omega (arith, c.half.ensures, pow_pos (c.args.level - 1))

pub last-upper-requires : goal.last-upper-requires
last-upper-requires t c =
    let h = halves c.args.level (omega arith) in
    (omega arith, (omega arith, (omega (arith, c.half.ensures), (subst (IsWithinArena (length c.args.nodes.now)) (tree_link c.args.nodes.now c.args.level c.in_ok-root.root c.args.link c.in_ok-root.was (omega arith)) c.requires.within).2)))
