use Rattle.std.proofs.Common.{◌<◌, arith, refl, subst, Err, Ok}
use Rattle.ms_event.specs.declared.event.Event.TheVariants.{Refused}
use Rattle.ms_event.specs.Monitor.{most_live}
use Rattle.ms_monitor.specs.refinement.Colours.{live_in}
use Rattle.ms_monitor.specs.refinement.Judging.{Judges}
use Rattle.ms_monitor.specs.refinement.Kept.{Kept}
use Rattle.ms_monitor.specs.declared.monitor.Verdict.TheVariants.{Reject}
use Rattle.ms_monitor.proofs.Refusing.{full_refuses, no_room_refuses, not_refused}
use Rattle.ms_monitor.proofs.Fields.{kept}
use Rattle.ms_monitor.proofs.monitor.Monitor.refused.Goals as goal

pub returns-then-live-eq-MOST_LIVE : goal.returns-then-live-eq-MOST_LIVE
returns-then-live-eq-MOST_LIVE c =
    let k = kept c.self.inside in
    let t = c.if-live-eq-MOST_LIVE.true in
    let e = c.live.ensures in
    subst (λ (k : Kept). Judges k k (Refused c.args.size) (Ok tt)) c.self.view_is (refl, λ s shows. (full_refuses k s c.args.size shows c.self.invariant (omega arith), shows))

pub returns-then-has_room : goal.returns-then-has_room
returns-then-has_room c =
    let k = kept c.self.inside in
    let f = c.if-live-eq-MOST_LIVE.false in
    let e = c.live.ensures in
    let most = c.self.invariant.few in
    let few : live_in k.colours < most_live = omega arith in
    subst (λ (k : Kept). Judges k k (Refused c.args.size) (Err Reject)) c.self.view_is (
      refl,
      λ s shows. not_refused k s c.args.size shows c.self.invariant few (c.has_room.ensures.0 c.if-has_room.true),
    )

pub returns : goal.returns
returns c =
    let k = kept c.self.inside in
    subst (λ (k : Kept). Judges k k (Refused c.args.size) (Ok tt)) c.self.view_is (
      refl,
      λ s shows. (no_room_refuses k s c.args.size shows c.self.invariant (λ h. let t = c.has_room.ensures.1 h in let f = c.if-has_room.false in cc), shows),
    )
