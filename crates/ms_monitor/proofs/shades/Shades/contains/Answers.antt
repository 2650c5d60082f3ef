use Rattle.std.proofs.Common.{◌↔◌, IsTrue, List, subst}
use Rattle.std.specs.List.{Contains}
use Rattle.ms_event.specs.Monitor.{Shade}
use Rattle.ms_monitor.specs.refinement.Shades.{shade_of}
use Rattle.ms_monitor.proofs.Slicing.{known}
use Rattle.ms_monitor.proofs.shades.Shades.contains.Goals as goal

pub returns : goal.returns
returns c =
    subst (λ (shades : List Shade). IsTrue c.contains.result ↔ Contains shades (shade_of c.args.part)) c.self.view_is (known c.self.inside.parts c.args.part c.contains.result c.contains.ensures)
