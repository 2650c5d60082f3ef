use Rattle.std.proofs.Common.{arith}
use Rattle.ms_live.proofs.ByAddress.{found_at_end, none_at_end, past_more}
use Rattle.ms_live.proofs.least_gap.least_place.Goals as goal

pub loop-i-preserved : goal.loop-i-preserved
loop-i-preserved c =
    let l = c.loop-i in
    record {
      near = c.past-candidate.ensures.near l.invariant.near;
      left = past_more c.args.n _ l.candidate _ c.args.placed.now l.i _ _ c.loop-i-test.true c.from-size.ensures c.past-candidate.ensures.place l.invariant.left;
    }

pub returns-then-candidate-size : goal.returns-then-candidate-size
returns-then-candidate-size c =
    let l = c.loop-i in
    found_at_end c.args.placed.now c.args.capacity c.args.n l.candidate l.i (omega arith) c.requires (omega arith) l.invariant.left (omega arith)

pub returns-else-candidate-size : goal.returns-else-candidate-size
returns-else-candidate-size c =
    let l = c.loop-i in
    none_at_end c.args.placed.now c.args.capacity c.args.n l.candidate l.i (omega arith) (omega arith) l.invariant.left (omega arith)
