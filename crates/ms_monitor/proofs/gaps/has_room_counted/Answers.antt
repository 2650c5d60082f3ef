use Rattle.ms_gap_tree.specs.refinement.Rooms.{room_at}
use Rattle.ms_monitor.proofs.Rooming.{room_found}
use Rattle.ms_monitor.proofs.gaps.has_room_counted.Goals as goal

pub returns : goal.returns
returns g c = room_found (room_at c.args.rooms.now) c.from.result c.args.size c.lowest.result c.is_some.result c.lowest.ensures.found c.from.ensures c.is_some.ensures
