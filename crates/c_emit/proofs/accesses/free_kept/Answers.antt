use Rattle.c_emit.proofs.Steps.{then_only}
use Rattle.c_emit.proofs.accesses.free_kept.Goals as goal

pub returns : goal.returns
returns c = then_only _ _ _ _ _ _ _ _ _ c.in_ok-begin.ensures c.in_ok-free_handle.ensures c.end.ensures
