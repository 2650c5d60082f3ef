use Rattle.std.proofs.Common.{◌<◌, ℕ, arith, subst, sym}
use Rattle.ms_gap_tree.specs.refinement.Tree.{half}
use Rattle.ms_live.proofs.tree_gaps.begin.Goals as goal

pub cut-requires-clause-below : goal.cut-requires-clause-below
cut-requires-clause-below c = subst (λ (key : ℕ). key < half c.args.rooms.now.levels) (sym c.behind-next.ensures) (c.requires.below (omega arith))
