use Rattle.std.proofs.Common.{◌≡◌, ◌+◌, ◌≤◌, Some, false, length, slice_get, sym, subst, arith}
use Rattle.ms_reach.specs.refinement.Closing.{Advances, State}
use Rattle.ms_reach.proofs.Closings.{advance_byte, advance_on, advance_past}
use Rattle.ms_reach.proofs.closing.Closing.follow.Goals as goal

pub loop-at-init : goal.loop-at-init
loop-at-init g c =
    let m = c.args.segments.now in
    let old = c.args.self.now in
    let from = c.args.range.from in
    let to = c.args.range.to in
    let at = c.next-at.result in
    record {
      within = c.next-at.ensures.to;
      free = λ low. subst (λ (s : State). slice_get s.marks at ≡ Some false) (sym c.next-at.ensures.state) (c.next-at.ensures.first low);
      advances =
          subst (λ (s : State). Advances m old from to s at to) (sym c.next-at.ensures.state)
          (advance_past m old from at to c.requires.over c.next-at.ensures.from c.next-at.ensures.to c.requires.within c.next-at.ensures.marked);
    }

pub loop-at-preserved : goal.loop-at-preserved
loop-at-preserved g c =
    let m = c.args.segments.now in
    let old = c.args.self.now in
    let here = c.loop-at.self in
    let next = c.visit.new.self in
    let from = c.args.range.from in
    let to = c.args.range.to in
    let at = c.loop-at.at in
    let last = c.next-at-in-loop-at.result in
    let so_far = c.loop-at.invariant.advances in
    let step = advance_byte m here next at to so_far.over c.loop-at-test.true (c.loop-at.invariant.free c.loop-at-test.true) c.in_ok-visit.ensures.marks c.in_ok-visit.ensures.todo in
    let room : to ≤ length next.marks = omega (arith, c.requires.within, so_far.same, step.same) in
    let past = advance_past m next (at + 1) last to step.over c.next-at-in-loop-at.ensures.from c.next-at-in-loop-at.ensures.to room c.next-at-in-loop-at.ensures.marked in
    record {
      within = c.next-at-in-loop-at.ensures.to;
      free = λ low. subst (λ (s : State). slice_get s.marks last ≡ Some false) (sym c.next-at-in-loop-at.ensures.state) (c.next-at-in-loop-at.ensures.first low);
      advances =
          subst (λ (s : State). Advances m old from to s last to) (sym c.next-at-in-loop-at.ensures.state)
          (advance_on m old here next from to at to last to so_far (advance_on m here next next at to (at + 1) to last to step past));
    }
