-- An event that is accepted is one more, and one that isn't is the first.
use Rattle.ms_monitor.proofs.InTurn.{one_more, rejects}
use Rattle.ms_monitor.proofs.judgement.judge.Goals as goal

pub returns-in-Err-Reject : goal.returns-in-Err-Reject
returns-in-Err-Reject c = rejects c.args.capacity c.args.events.now c.loop-at.at _ c.loop-at.monitor c.see.new.self c.loop-at-test.true c.loop-at.invariant c.in-Err-Reject.field-0 c.in-Err-Reject.field-0-is c.in-Err-Reject.ensures

pub loop-at-preserved : goal.loop-at-preserved
loop-at-preserved c = one_more c.args.capacity c.args.events.now c.loop-at.at _ c.loop-at.monitor c.see.new.self c.loop-at-test.true c.loop-at.invariant c.in-Ok-see.ensures
