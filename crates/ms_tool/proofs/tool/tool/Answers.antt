use Rattle.ms_tool.proofs.Complete.{keeps}
use Rattle.ms_tool.proofs.tool.tool.Goals as goal

pub returns : goal.returns
returns g c = keeps _ _ _ c.respond.result c.respond.ensures
