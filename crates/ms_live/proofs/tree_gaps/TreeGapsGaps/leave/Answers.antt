use Rattle.std.proofs.Common.{List, subst, sym, ap, ◌∙◌}
use Rattle.ms_live.specs.refinement.Kept.{IsKept, Kept}
use Rattle.ms_live.specs.Place.{contains_id}
use Rattle.ms_live.specs.declared.gaps.Live.{Live}
use Rattle.ms_live.specs.declared.tree_gaps.TreeGaps.TheInside.{Inside}
use Rattle.ms_live.proofs.Keeping.{back_is, first_is, found_some, kept_left, near_is, within_is}
use Rattle.ms_live.proofs.tree_gaps.TreeGapsGaps.leave.Goals as goal

abbrev kept : Inside → Kept
kept g = record { addresses = g.capacity; live = g.ids; rooms = g.rooms }

pub unreachable-requires : goal.unreachable-requires
unreachable-requires c =
    let there = ap (λ (k : Kept). contains_id c.args.id k.live) c.self.view_is ∙ c.requires in
    found_some c.self.inside.ids c.args.id there (sym c.find.ensures ∙ c.in_default.is)

pub end-requires-clause-first : goal.end-requires-clause-first
end-requires-clause-first c = first_is (kept c.self.inside) c.self.invariant

pub end-requires-clause-back : goal.end-requires-clause-back
end-requires-clause-back c some = back_is (kept c.self.inside) c.args.id c.in-Some.segment c.self.invariant (sym c.find.ensures ∙ c.in-Some.is) some

pub end-requires-clause-near : goal.end-requires-clause-near
end-requires-clause-near c key room e = near_is (kept c.self.inside) c.self.invariant key room e

pub end-requires-clause-within : goal.end-requires-clause-within
end-requires-clause-within c some = within_is (kept c.self.inside) c.args.id c.in-Some.segment c.self.invariant (sym c.find.ensures ∙ c.in-Some.is) some

pub invariant_of-self : goal.invariant_of-self
invariant_of-self c =
    let k = kept c.self.inside in
    subst (λ (live : List Live). IsKept (record { addresses = k.addresses; live = live; rooms = c.end.new.rooms })) (sym c.remove.ensures)
    (kept_left k c.args.id c.in-Some.segment c.end.new.rooms c.self.invariant (sym c.find.ensures ∙ c.in-Some.is) c.end.ensures.ends c.end.ensures.same c.end.ensures.size c.end.ensures.levels c.end.ensures.most)
