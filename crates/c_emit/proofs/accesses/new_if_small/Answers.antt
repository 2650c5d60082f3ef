use Rattle.c_emit.proofs.Steps.{then_choice}
use Rattle.c_emit.proofs.accesses.new_if_small.Goals as goal

pub returns : goal.returns
returns c = then_choice _ _ _ _ _ _ _ _ _ _ _ _ c.in_ok-begin.ensures c.in_ok-add.ensures c.turn.ensures c.in_ok-new_small.ensures c.end.ensures
