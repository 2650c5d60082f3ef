use Rattle.std.proofs.Common.{refl, subst, Err, Ok}
use Rattle.ms_event.specs.declared.event.Event.TheVariants.{Read}
use Rattle.ms_monitor.specs.refinement.Judging.{Judges}
use Rattle.ms_monitor.specs.refinement.Kept.{Kept}
use Rattle.ms_monitor.specs.refinement.Shades.{shade_of}
use Rattle.ms_monitor.specs.declared.monitor.Verdict.TheVariants.{Reject}
use Rattle.ms_monitor.proofs.Accessed.{access_may, as_write, covered_from_inside}
use Rattle.ms_monitor.proofs.Fields.{kept}
use Rattle.ms_monitor.proofs.monitor.Monitor.access.Goals as goal

pub returns-then-not-knows-clause-read : goal.returns-then-not-knows-clause-read
returns-then-not-knows-clause-read c =
    subst (λ (k : Kept). Judges k k (Read c.args.part.sealed c.args.part.colour c.args.part.lo c.args.part.hi c.args.address c.args.width) (Err Reject)) c.self.view_is (
      refl,
      λ s shows m. let t = c.knows.ensures.1 ((shows.shades (shade_of c.args.part)).0 m.0) in let f = c.if-not-knows.true in cc,
    )

pub returns-then-not-covers-clause-read : goal.returns-then-not-covers-clause-read
returns-then-not-covers-clause-read c =
    subst (λ (k : Kept). Judges k k (Read c.args.part.sealed c.args.part.colour c.args.part.lo c.args.part.hi c.args.address c.args.width) (Err Reject)) c.self.view_is (
      refl,
      λ s shows m. let t = c.covers.ensures.1 (covered_from_inside (kept c.self.inside) s (shade_of c.args.part) c.args.address c.args.width shows m.1) in let f = c.if-not-covers.true in cc,
    )

pub returns-clause-read : goal.returns-clause-read
returns-clause-read c =
    subst (λ (k : Kept). Judges k k (Read c.args.part.sealed c.args.part.colour c.args.part.lo c.args.part.hi c.args.address c.args.width) (Ok tt)) c.self.view_is (
      refl,
      λ s shows. (access_may (kept c.self.inside) s (shade_of c.args.part) c.args.address c.args.width shows (c.knows.ensures.0 c.if-not-knows.false) (c.covers.ensures.0 c.if-not-covers.false), shows),
    )

pub returns-then-not-knows-clause-write : goal.returns-then-not-knows-clause-write
returns-then-not-knows-clause-write c writable = as_write c.args.self.now c.args.part.sealed c.args.part.colour c.args.part.lo c.args.part.hi c.args.address c.args.width (Err Reject) writable (returns-then-not-knows-clause-read c)

pub returns-then-not-covers-clause-write : goal.returns-then-not-covers-clause-write
returns-then-not-covers-clause-write c writable = as_write c.args.self.now c.args.part.sealed c.args.part.colour c.args.part.lo c.args.part.hi c.args.address c.args.width (Err Reject) writable (returns-then-not-covers-clause-read c)

pub returns-clause-write : goal.returns-clause-write
returns-clause-write c writable = as_write c.args.self.now c.args.part.sealed c.args.part.colour c.args.part.lo c.args.part.hi c.args.address c.args.width (Ok tt) writable (returns-clause-read c)
