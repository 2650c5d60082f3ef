use Rattle.std.proofs.Common.{List, map, subst}
use Rattle.ms_event.specs.Monitor.{Shade}
use Rattle.ms_monitor.specs.refinement.Shades.{Learns, shade_of}
use Rattle.ms_monitor.proofs.Slicing.{learnt}
use Rattle.ms_monitor.proofs.shades.Shades.add.Goals as goal

pub returns-clause-ok : goal.returns-clause-ok
returns-clause-ok c =
    subst (λ (shades : List Shade). Learns shades (map shade_of c.insert.new.self.keys) (shade_of c.args.part)) c.self.view_is
    (learnt c.self.inside.parts c.insert.new.self c.args.part c.in_ok-insert.ensures.updates)
