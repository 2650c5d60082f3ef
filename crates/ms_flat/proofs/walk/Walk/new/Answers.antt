use Rattle.ms_flat.proofs.Going.{left_first}
use Rattle.ms_flat.proofs.walk.Walk.new.Goals as goal

pub returns-clause-flat : goal.returns-clause-flat
returns-clause-flat c = rw (c.start.ensures, c.new.ensures) (left_first c.args.code.now c.len-some.ensures.numbered)
