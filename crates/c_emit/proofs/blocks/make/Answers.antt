use Rattle.c_emit.proofs.Steps.{then}
use Rattle.c_emit.proofs.blocks.make.Goals as goal

pub returns : goal.returns
returns c =
    then _ _ _ _ _ _ _ _ c.in_ok-new_frame.ensures (then _ _ _ _ _ _ _ _ c.in_ok-tee.ensures (then _ _ _ _ _ _ _ _ c.in_ok-add.ensures c.stop_if.ensures))
