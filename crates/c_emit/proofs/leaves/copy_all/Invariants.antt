use Rattle.std.proofs.Common.{drop}
use Rattle.c_emit.specs.refinement.Leaves.{copies_of}
use Rattle.c_emit.proofs.Items.{IsLeft}
use Rattle.c_emit.proofs.leaves.copy_all.Given as goal

abbrev pub invariant-loop-leaf : goal.invariant-loop-leaf
invariant-loop-leaf l = IsLeft l.fn.body l.body (copies_of (drop l.leaf-index l.leaves) l.from l.to) (copies_of l.leaves l.from l.to)
