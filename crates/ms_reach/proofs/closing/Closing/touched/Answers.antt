use Rattle.std.proofs.Common.{◌+◌, sym, subst, arith}
use Rattle.ms_reach.specs.Count.{IsCount}
use Rattle.ms_reach.specs.refinement.Closing.{HasMark}
use Rattle.ms_reach.proofs.Counts.{Up, count_all, count_none, count_one, count_skip, has_mark, has_no_mark, mark_within}
use Rattle.ms_reach.proofs.closing.Closing.touched.Goals as goal
use Rattle.ms_reach.proofs.closing.Closing.touched.Goals.{then-touches, else-touches}

pub loop-i-init : goal.loop-i-init
loop-i-init c = record { few = omega arith; count = count_none (HasMark c.args.self.now.marks c.args.live.now) }

pub loop-i-preserved : goal.loop-i-preserved
loop-i-preserved c =
    let marks = c.args.self.now.marks in
    let live = c.args.live.now in
    let with_mark = HasMark marks live in
    elim c.if-touches.branch [
      | then-touches w ↦ record {
        few = omega (arith, w.count-is, c.loop-i.invariant.few);
        count = subst (IsCount (Up with_mark (c.loop-i.i + 1))) (sym w.count-is) (count_one with_mark c.loop-i.i c.loop-i.count c.loop-i.invariant.count (has_mark marks live c.loop-i.i _ c.loop-i-test.true (c.touches.ensures.some w.if-touches.true)));
      }
      | else-touches w ↦ record {
        few = omega (arith, w.count-is, c.loop-i.invariant.few);
        count = subst (IsCount (Up with_mark (c.loop-i.i + 1))) (sym w.count-is) (count_skip with_mark c.loop-i.i c.loop-i.count c.loop-i.invariant.count (has_no_mark marks live c.loop-i.i _ c.loop-i-test.true (c.touches.ensures.none w.if-touches.false)));
      }
    ]

pub returns : goal.returns
returns c =
    count_all (HasMark c.args.self.now.marks c.args.live.now) c.loop-i.i c.loop-i.count (λ k has. mark_within c.args.self.now.marks c.args.live.now c.loop-i.i k c.loop-i-test.false has) c.loop-i.invariant.count
