use Rattle.std.proofs.Common.{List, ap, false, refl, subst, true, Err, Ok}
use Rattle.ms_event.specs.Monitor.{Shade, shade_of}
use Rattle.ms_event.specs.declared.event.Event.TheVariants.{Seal}
use Rattle.ms_monitor.specs.refinement.Judging.{Judges}
use Rattle.ms_monitor.specs.refinement.Kept.{Kept}
use Rattle.ms_monitor.specs.declared.monitor.Verdict.TheVariants.{Memory, Reject}
use Rattle.ms_monitor.proofs.Accessed.{joined_shows}
use Rattle.ms_monitor.proofs.Fields.{kept}
use Rattle.ms_monitor.proofs.monitor.Monitor.seal.Goals as goal

pub returns-then-not-knows : goal.returns-then-not-knows
returns-then-not-knows c =
    subst (λ (k : Kept). Judges k k (Seal c.args.colour c.args.lo c.args.hi) (Err Reject)) c.self.view_is (
      refl,
      λ s shows m. let t = c.knows.ensures.1 ((shows.shades (shade_of false c.args.colour c.args.lo c.args.hi)).0 m) in let f = c.if-not-knows.true in cc,
    )

pub returns : goal.returns
returns c =
    let k = kept c.self.inside in
    let known = c.knows.ensures.0 c.if-not-knows.false in
    let new : Kept = record { capacity = k.capacity; colours = k.colours; shades = c.add.new.self; rooms = k.rooms } in
    subst (λ (k : Kept). Judges k new (Seal c.args.colour c.args.lo c.args.hi) (Ok tt)) c.self.view_is (
      refl,
      λ s shows. (
        (shows.shades (shade_of false c.args.colour c.args.lo c.args.hi)).1 known,
        joined_shows k s (shade_of true c.args.colour c.args.lo c.args.hi) c.add.new.self shows c.in-Ok.ensures.ok,
      ),
    )

pub returns-in_default : goal.returns-in_default
returns-in_default c =
    let k = kept c.self.inside in
    let known = c.knows.ensures.0 c.if-not-knows.false in
    let kept_with = λ (shades : List Shade). let new : Kept = record { capacity = k.capacity; colours = k.colours; shades = shades; rooms = k.rooms } in new in
    subst (λ (k : Kept). Judges k (kept_with c.add.new.self) (Seal c.args.colour c.args.lo c.args.hi) (Err Memory)) c.self.view_is (
      ap kept_with c.in_default.ensures.err,
      tt,
      λ s shows. (shows.shades (shade_of false c.args.colour c.args.lo c.args.hi)).1 known,
    )
