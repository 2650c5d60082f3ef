use Rattle.std.proofs.Common.{◌<◌, ◌+◌, ◌-◌, ◌/◌, length, sym, arith}
use Rattle.std.proofs.lemmas.Option.{slice_get-get_or}
use Rattle.ms_reach.proofs.Leads.{found_at, found_none, lower_more, upper_read}
use Rattle.ms_reach.proofs.leading.found.Goals as goal

pub returns-then-segment-id : goal.returns-then-segment-id
returns-then-segment-id c =
    let middle = c.loop-low.low + (c.loop-low.high - c.loop-low.low) / 2 in
    let low : middle < length c.args.live.now = omega (arith, c.loop-low-test.true, c.loop-low.invariant.within) in
    sym (found_at c.args.live.now middle c.args.id _ c.requires (slice_get-get_or c.args.live.now middle _ low) c.if-segment-id.true)

pub loop-low-preserved-then-segment-id-2 : goal.loop-low-preserved-then-segment-id-2
loop-low-preserved-then-segment-id-2 c =
    let middle = c.loop-low.low + (c.loop-low.high - c.loop-low.low) / 2 in
    let low : middle < length c.args.live.now = omega (arith, c.loop-low-test.true, c.loop-low.invariant.within) in
    record {
      order = omega (arith, c.loop-low-test.true);
      within = c.loop-low.invariant.within;
      lower = lower_more c.args.live.now middle c.args.id _ c.requires (slice_get-get_or c.args.live.now middle _ low) c.if-segment-id-2.true;
      upper = c.loop-low.invariant.upper;
    }

pub loop-low-preserved : goal.loop-low-preserved
loop-low-preserved c =
    let middle = c.loop-low.low + (c.loop-low.high - c.loop-low.low) / 2 in
    let low : middle < length c.args.live.now = omega (arith, c.loop-low-test.true, c.loop-low.invariant.within) in
    record {
      order = omega (arith, c.loop-low-test.true);
      within = omega (arith, low);
      lower = c.loop-low.invariant.lower;
      upper = upper_read c.args.live.now middle c.args.id _ c.requires low c.if-segment-id.false c.if-segment-id-2.false;
    }

pub returns : goal.returns
returns c =
    sym (found_none c.args.live.now c.loop-low.low c.args.id c.loop-low.invariant.lower (λ k s is high. c.loop-low.invariant.upper k s is (omega (arith, high, c.loop-low-test.false, c.loop-low.invariant.order))))
