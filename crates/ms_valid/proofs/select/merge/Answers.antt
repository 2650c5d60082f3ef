use Rattle.ms_valid.proofs.Shapes.{merged, merges_apart}
use Rattle.ms_valid.proofs.select.merge.Goals as goal

pub returns-in-None : goal.returns-in-None
returns-in-None c = merges_apart c.args.operands.now c.pop.new.self c.in-Some.a c.in-Some-pop.b c.in-Some.ensures.slot c.in-Some.ensures.shape c.in-Some-pop.ensures.slot c.in-None.ensures

pub returns-in_ok-push-in-Some-meet : goal.returns-in_ok-push-in-Some-meet
returns-in_ok-push-in-Some-meet c = merged c.args.operands.now c.pop.new.self c.pop-2.new.self c.push.new.self c.in-Some.a c.in-Some-pop.b c.in-Some-meet.slot c.in-Some.ensures.slot c.in-Some.ensures.shape c.in-Some-pop.ensures.slot c.in-Some-pop.ensures.shape c.in-Some-meet.ensures c.in_ok-push-in-Some-meet.ensures
