use Rattle.std.proofs.Common.{List, ap, refl, subst, Err, Ok}
use Rattle.ms_event.specs.Monitor.{Shade}
use Rattle.ms_event.specs.Monitor as monitor
use Rattle.ms_event.specs.declared.event.Event.TheVariants.{Slice}
use Rattle.ms_monitor.specs.refinement.Judging.{Judges}
use Rattle.ms_monitor.specs.refinement.Kept.{Kept}
use Rattle.ms_monitor.specs.refinement.Shades.{shade_of}
use Rattle.ms_monitor.specs.declared.monitor.Verdict.TheVariants.{Memory, Reject}
use Rattle.ms_monitor.proofs.Accessed.{joined_shows}
use Rattle.ms_monitor.proofs.Fields.{kept}
use Rattle.ms_monitor.proofs.monitor.Monitor.slice.Goals as goal

pub returns-then-not-knows : goal.returns-then-not-knows
returns-then-not-knows c =
    subst (λ (k : Kept). Judges k k (Slice c.args.whole.sealed c.args.whole.colour c.args.whole.lo c.args.whole.hi c.args.lo c.args.hi) (Err Reject)) c.self.view_is (
      refl,
      λ s shows m. let t = c.knows.ensures.1 ((shows.shades (shade_of c.args.whole)).0 m.0) in let f = c.if-not-knows.true in cc,
    )

pub returns : goal.returns
returns c =
    let k = kept c.self.inside in
    let lies = c.lies_in.ensures.0 c.if-not-lies_in.false in
    let known = c.knows.ensures.0 c.if-not-knows.false in
    let new : Kept = record { capacity = k.capacity; colours = k.colours; shades = c.add.new.self; rooms = k.rooms } in
    subst (λ (k : Kept). Judges k new (Slice c.args.whole.sealed c.args.whole.colour c.args.whole.lo c.args.whole.hi c.args.lo c.args.hi) (Ok tt)) c.self.view_is (
      refl,
      λ s shows. (
        ((shows.shades (shade_of c.args.whole)).1 known, lies.0, lies.1, lies.2),
        joined_shows k s (monitor.shade_of c.args.whole.sealed c.args.whole.colour c.args.lo c.args.hi) c.add.new.self shows c.in-Ok.ensures.ok,
      ),
    )

pub returns-in_default : goal.returns-in_default
returns-in_default c =
    let k = kept c.self.inside in
    let lies = c.lies_in.ensures.0 c.if-not-lies_in.false in
    let known = c.knows.ensures.0 c.if-not-knows.false in
    let kept_with = λ (shades : List Shade). let new : Kept = record { capacity = k.capacity; colours = k.colours; shades = shades; rooms = k.rooms } in new in
    subst (λ (k : Kept). Judges k (kept_with c.add.new.self) (Slice c.args.whole.sealed c.args.whole.colour c.args.whole.lo c.args.whole.hi c.args.lo c.args.hi) (Err Memory)) c.self.view_is (
      ap kept_with c.in_default.ensures.err,
      tt,
      λ s shows. ((shows.shades (shade_of c.args.whole)).1 known, lies.0, lies.1, lies.2),
    )
