use Rattle.ms_event.specs.Monitor.{nothing_yet}
use Rattle.ms_event.proofs.Traces.{accepted_by_steps}
use Rattle.ms_event.proofs.laws.accepted_by_steps.Goals as goal

pub returns : goal.returns
returns c = λ capacity es e. accepted_by_steps capacity nothing_yet es e
