use Rattle.ms_valid.proofs.Shapes.{leads_if, leads_if_other, leads_if_nothing}
use Rattle.ms_valid.proofs.branches.leave_if.Goals as goal

pub returns-then-not-take : goal.returns-then-not-take
returns-then-not-take c = leads_if_nothing c.args.label c.if-not-take.ensures

pub returns-then-not-take_result : goal.returns-then-not-take_result
returns-then-not-take_result c = leads_if_other c.args.label c.if-not-take.ensures c.if-not-take_result.ensures

pub returns : goal.returns
returns c = leads_if c.args.label c.if-not-take.ensures c.if-not-take_result.ensures c.in_ok-give_result.ensures
