use Rattle.std.proofs.Common.{ℕ, List, ap, refl, subst, Err, Ok}
use Rattle.ms_event.specs.declared.event.Event.TheVariants.{Alloc}
use Rattle.ms_monitor.specs.refinement.Judging.{Judges}
use Rattle.ms_monitor.specs.refinement.Kept.{Kept}
use Rattle.ms_monitor.specs.declared.colours.Colour.{Colour}
use Rattle.ms_monitor.specs.declared.monitor.Verdict.TheVariants.{Memory, Reject}
use Rattle.ms_monitor.proofs.Allocated.{absent_is, back_below, alloc_kept, alloc_may, alloc_shows, few_is, may_begin, may_fit, near_is}
use Rattle.ms_monitor.proofs.Fields.{kept}
use Rattle.ms_monitor.proofs.monitor.Monitor.alloc.Goals as goal

pub returns-then-not-may_begin : goal.returns-then-not-may_begin
returns-then-not-may_begin c =
    subst (λ (k : Kept). Judges k k (Alloc c.args.id c.args.base c.args.size) (Err Reject)) c.self.view_is (
      refl,
      λ s shows m. let t = c.may_begin.ensures.1 (may_begin (kept c.self.inside) s c.args.id c.args.base c.args.size shows m) in let f = c.if-not-may_begin.true in cc,
    )

pub reaches-requires : goal.reaches-requires
reaches-requires c = near_is (kept c.self.inside) c.self.invariant c.gap_before-gap.result.key c.gap_before-gap.result.room c.gap_before-gap.ensures.found

pub returns-then-not-reaches : goal.returns-then-not-reaches
returns-then-not-reaches c =
    subst (λ (k : Kept). Judges k k (Alloc c.args.id c.args.base c.args.size) (Err Reject)) c.self.view_is (
      refl,
      λ s shows m.
          let t = c.reaches.ensures.1 (may_fit (kept c.self.inside) s c.args.id c.args.base c.args.size c.gap_before-gap.result.key c.gap_before-gap.result.room shows c.self.invariant c.gap_before-gap.ensures m) in
          let f = c.if-not-reaches.true in
          cc,
    )

pub split-requires-clause-near : goal.split-requires-clause-near
split-requires-clause-near c key room e = near_is (kept c.self.inside) c.self.invariant key room e

pub split-requires-clause-absent : goal.split-requires-clause-absent
split-requires-clause-absent c some =
    absent_is (kept c.self.inside) c.args.base c.args.size c.gap_before-gap.result.key c.gap_before-gap.result.room c.self.invariant (c.may_begin.ensures.0 c.if-not-may_begin.false).2 c.gap_before-gap.ensures (c.reaches.ensures.0 c.if-not-reaches.false) some

pub split-requires-clause-below : goal.split-requires-clause-below
split-requires-clause-below c some =
    back_below (kept c.self.inside) c.args.base c.args.size c.gap_before-gap.result.key c.gap_before-gap.result.room c.self.invariant c.gap_before-gap.ensures (c.reaches.ensures.0 c.if-not-reaches.false) some

pub split-requires-clause-few : goal.split-requires-clause-few
split-requires-clause-few c = few_is (kept c.self.inside) c.self.invariant (c.may_begin.ensures.0 c.if-not-may_begin.false).0

pub invariant_of-self-2 : goal.invariant_of-self-2
invariant_of-self-2 c =
    let e = c.split.ensures in
    alloc_kept (kept c.self.inside) c.args.id c.args.base c.args.size c.gap_before-gap.result.key c.gap_before-gap.result.room c.add.new.self c.self.inside.shades c.split.new.rooms
    c.self.invariant (c.may_begin.ensures.0 c.if-not-may_begin.false) c.gap_before-gap.ensures (c.reaches.ensures.0 c.if-not-reaches.false) c.in-Ok.ensures.ok e.splits e.same e.size e.levels e.most

pub returns : goal.returns
returns c =
    let k = kept c.self.inside in
    let b = c.may_begin.ensures.0 c.if-not-may_begin.false in
    let new : Kept = record { capacity = k.capacity; colours = c.add.new.self; shades = k.shades; rooms = c.split.new.rooms } in
    subst (λ (k : Kept). Judges k new (Alloc c.args.id c.args.base c.args.size) (Ok tt)) c.self.view_is (
      refl,
      λ s shows. (
        alloc_may k s c.args.id c.args.base c.args.size c.gap_before-gap.result.key c.gap_before-gap.result.room shows c.self.invariant b c.gap_before-gap.ensures (c.reaches.ensures.0 c.if-not-reaches.false),
        alloc_shows k s c.args.id c.args.base c.args.size c.add.new.self c.split.new.rooms shows b.1 c.in-Ok.ensures.ok,
      ),
    )

pub returns-in_default : goal.returns-in_default
returns-in_default c =
    let k = kept c.self.inside in
    let kept_with = λ (colours : List (ℕ × Colour)). let new : Kept = record { capacity = k.capacity; colours = colours; shades = k.shades; rooms = k.rooms } in new in
    subst (λ (k : Kept). Judges k (kept_with c.add.new.self) (Alloc c.args.id c.args.base c.args.size) (Err Memory)) c.self.view_is (
      ap kept_with c.in_default.ensures.err,
      tt,
      λ s shows.
          alloc_may k s c.args.id c.args.base c.args.size c.gap_before-gap.result.key c.gap_before-gap.result.room shows c.self.invariant (c.may_begin.ensures.0 c.if-not-may_begin.false) c.gap_before-gap.ensures
          (c.reaches.ensures.0 c.if-not-reaches.false),
    )
