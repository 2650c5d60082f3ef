use Rattle.std.proofs.Common.{◌∙◌, refl, subst, sym, Err, Ok}
use Rattle.ms_event.specs.declared.event.Event.TheVariants.{Free}
use Rattle.ms_monitor.specs.refinement.Judging.{Judges}
use Rattle.ms_monitor.specs.refinement.Kept.{Kept}
use Rattle.ms_monitor.specs.declared.monitor.Verdict.TheVariants.{Reject}
use Rattle.ms_monitor.proofs.Allocated.{near_is}
use Rattle.ms_monitor.proofs.Freed.{back_is, first_is, free_kept, free_shows, not_live, not_used, true_from, within_is}
use Rattle.ms_monitor.proofs.Fields.{kept}
use Rattle.ms_monitor.proofs.monitor.Monitor.free.Goals as goal
use Rattle.ms_live.proofs.Found.{not_false}

pub returns-in_default : goal.returns-in_default
returns-in_default c =
    subst (λ (k : Kept). Judges k k (Free c.args.id) (Err Reject)) c.self.view_is (refl, λ s shows. not_used (kept c.self.inside) s c.args.id shows (sym c.find.ensures ∙ c.in_default.is))

pub returns-then-not-colour : goal.returns-then-not-colour
returns-then-not-colour c =
    subst (λ (k : Kept). Judges k k (Free c.args.id) (Err Reject)) c.self.view_is (
      refl,
      λ s shows. not_live (kept c.self.inside) s c.args.id c.in-Some.colour shows (sym c.find.ensures ∙ c.in-Some.is) (not_false c.in-Some.colour.is_live c.if-not-colour.true),
    )

pub join-requires-clause-first : goal.join-requires-clause-first
join-requires-clause-first c = first_is (kept c.self.inside) c.self.invariant

pub join-requires-clause-back : goal.join-requires-clause-back
join-requires-clause-back c some = back_is (kept c.self.inside) c.args.id c.in-Some.colour c.self.invariant (sym c.find.ensures ∙ c.in-Some.is) (true_from c.in-Some.colour.is_live c.if-not-colour.false) some

pub join-requires-clause-near : goal.join-requires-clause-near
join-requires-clause-near c key room e = near_is (kept c.self.inside) c.self.invariant key room e

pub join-requires-clause-within : goal.join-requires-clause-within
join-requires-clause-within c some = within_is (kept c.self.inside) c.args.id c.in-Some.colour c.self.invariant (sym c.find.ensures ∙ c.in-Some.is) (true_from c.in-Some.colour.is_live c.if-not-colour.false) some

pub invariant_of-self : goal.invariant_of-self
invariant_of-self c =
    let e = c.join.ensures in
    free_kept (kept c.self.inside) c.args.id c.in-Some.colour c.end.new.self c.self.inside.shades c.join.new.rooms c.self.invariant (sym c.find.ensures ∙ c.in-Some.is) (true_from c.in-Some.colour.is_live c.if-not-colour.false) c.end.ensures e.ends e.same e.size e.levels e.most

pub returns : goal.returns
returns c =
    let k = kept c.self.inside in
    let new : Kept = record { capacity = k.capacity; colours = c.end.new.self; shades = k.shades; rooms = c.join.new.rooms } in
    let found = sym c.find.ensures ∙ c.in-Some.is in
    subst (λ (k : Kept). Judges k new (Free c.args.id) (Ok tt)) c.self.view_is (
      refl,
      λ s shows. (
        (shows.live c.args.id).1 (c.in-Some.colour, found, (true_from c.in-Some.colour.is_live c.if-not-colour.false)),
        free_shows k s c.args.id c.in-Some.colour c.end.new.self c.join.new.rooms shows found (true_from c.in-Some.colour.is_live c.if-not-colour.false) c.end.ensures,
      ),
    )
