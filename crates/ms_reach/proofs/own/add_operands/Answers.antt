use Rattle.ms_reach.proofs.Gathering.{gather_next}
use Rattle.ms_reach.proofs.own.add_operands.Goals as goal

pub loop-i-preserved : goal.loop-i-preserved
loop-i-preserved c =
    gather_next c.args.live.now c.args.operands.now c.loop-i.i c.get.result c.args.closing.now c.loop-i.closing c.add_value.new.self c.get.ensures c.loop-i.invariant c.in_ok-add_value.ensures
