use Rattle.ms_reach.proofs.Closings.{advance_on, advance_take}
use Rattle.ms_reach.proofs.closing.Closing.close.Goals as goal

pub loop-range-preserved : goal.loop-range-preserved
loop-range-preserved g c =
    let m = c.args.segments.now in
    let took = advance_take m c.loop-range.self c.take.new.self c.in-Some.range c.loop-range.invariant.over c.take.ensures.marks c.in-Some.ensures.taken in
    advance_on m c.args.self.now c.loop-range.self c.follow.new.self 0 0 0 0 0 0 c.loop-range.invariant
    (advance_on m c.loop-range.self c.take.new.self c.follow.new.self 0 0 c.in-Some.range.from c.in-Some.range.to 0 0 took.0 c.in_ok-follow.ensures)
