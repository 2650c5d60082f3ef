use Rattle.ms_valid.proofs.Shapes.{selects, selects_nothing}
use Rattle.ms_valid.proofs.select.select.Goals as goal

pub returns-then-not-take : goal.returns-then-not-take
returns-then-not-take c = selects_nothing c.if-not-take.ensures

pub returns : goal.returns
returns c = selects c.merge.new.operands c.in_ok-merge.field-0 c.if-not-take.ensures c.in_ok-merge.ensures
