use Rattle.std.proofs.Common.{◌+◌, drop}
use Rattle.c_emit.specs.refinement.Leaves.{copies_of}
use Rattle.c_emit.proofs.Copying.{copies_at, none_copied}
use Rattle.c_emit.proofs.Items.{less_is_left}
use Rattle.c_emit.proofs.leaves.copy_all.Goals as goal

pub loop-leaf-init : goal.loop-leaf-init
loop-leaf-init c = record { to_end = λ end h. h }

pub loop-leaf-preserved : goal.loop-leaf-preserved
loop-leaf-preserved c =
    less_is_left _ _ _ _ _ _
    (copies_at c.args.body.now c.loop-leaf.body c.args.leaves.now c.loop-leaf.leaf-index _ _ c.args.from c.args.to c.loop-leaf-test.true c.loop-leaf.invariant)
    c.in_ok-copy_leaf.ensures

pub returns : goal.returns
returns c = none_copied _ _ c.args.leaves.now c.loop-leaf.leaf-index _ c.args.from c.args.to c.loop-leaf-test.false c.loop-leaf.invariant
