use Rattle.std.proofs.Common.{◌<◌, length, arith, ap}
use Rattle.ms_event.specs.Monitor.{most_live}
use Rattle.ms_segment.specs.Memory.{Memory}
use Rattle.ms_segment.proofs.Calls.{IsPlaceIn-from_place, placed-in}
use Rattle.ms_segment.proofs.segments.Segments.place.Goals as goal

pub returns-clause-place : goal.returns-clause-place
returns-clause-place g c =
    let same = ap (λ (m : Memory). length m.live) c.self.view_is in
    let few : length c.args.self.now.live < most_live = omega (arith, c.self.invariant.1.few, c.count.ensures) in
    IsPlaceIn-from_place c.args.self.now c.args.n c.place.result few (placed-in (g.T.Tagged.bytes c.self.inside.tagged) (g.G.Gaps.live c.self.inside.gaps) c.self.inside.made c.self.inside.accesses (g.G.Gaps.addresses c.self.inside.gaps) c.args.n c.place.result c.args.self.now c.self.view_is c.self.invariant.0 c.place.ensures)
