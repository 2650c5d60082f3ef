use Rattle.std.proofs.Common.{◌<◌, List, Some, All, arith, length, subst, sym}
use Rattle.ms_gap_tree.specs.refinement.Rooms.{room_at}
use Rattle.ms_live.specs.refinement.Kept.{IsKept, Kept}
use Rattle.ms_live.specs.Place.{IsPlace}
use Rattle.ms_live.specs.declared.gaps.Live.{Live}
use Rattle.ms_live.specs.declared.gaps.TheConstants.{MOST_LIVE}
use Rattle.ms_live.specs.declared.tree_gaps.TreeGaps.TheInside.{Inside}
use Rattle.ms_live.proofs.Keeping.{begun, few_is, kept_entered, near_is, placed_within}
use Rattle.ms_live.proofs.tree_gaps.TreeGapsGaps.enter.Goals as goal

abbrev kept : Inside → Kept
kept g = record { addresses = g.capacity; live = g.ids; rooms = g.rooms }

pub begin-requires-clause-begun : goal.begin-requires-clause-begun
begin-requires-clause-begun c some =
    let g = c.self.inside in
    let place = subst (λ (k : Kept). IsPlace k.live k.addresses c.args.segment.size (Some c.args.segment.base)) (sym c.self.view_is) c.requires.placed in
    begun g.ids g.capacity (room_at g.rooms) c.args.segment c.self.invariant.layout some place

pub begin-requires-clause-near : goal.begin-requires-clause-near
begin-requires-clause-near c key room e = near_is (kept c.self.inside) c.self.invariant key room e

pub begin-requires-clause-below : goal.begin-requires-clause-below
begin-requires-clause-below c some =
    let g = c.self.inside in
    let place = subst (λ (k : Kept). IsPlace k.live k.addresses c.args.segment.size (Some c.args.segment.base)) (sym c.self.view_is) c.requires.placed in
    let within = placed_within g.ids g.capacity c.args.segment some place in
    let enough = c.self.invariant.levels.1 in
    omega arith

pub begin-requires-clause-few : goal.begin-requires-clause-few
begin-requires-clause-few c = few_is (kept c.self.inside) c.self.invariant (subst (λ (k : Kept). length k.live < MOST_LIVE) (sym c.self.view_is) c.requires.few)

pub invariant_of-self : goal.invariant_of-self
invariant_of-self c =
    let k = kept c.self.inside in
    let few = subst (λ (k : Kept). length k.live < MOST_LIVE) (sym c.self.view_is) c.requires.few in
    let newest = subst (λ (k : Kept). All (λ (other : Live). other.id < c.args.segment.id) k.live) (sym c.self.view_is) c.requires.newest in
    let place = subst (λ (k : Kept). IsPlace k.live k.addresses c.args.segment.size (Some c.args.segment.base)) (sym c.self.view_is) c.requires.placed in
    subst (λ (live : List Live). IsKept (record { addresses = k.addresses; live = live; rooms = c.begin.new.rooms })) (sym c.push.ensures)
    (kept_entered k c.args.segment c.begin.new.rooms c.self.invariant few newest place c.begin.ensures.begins c.begin.ensures.same c.begin.ensures.size c.begin.ensures.levels c.begin.ensures.most)
