use Rattle.ms_event.specs.Monitor.{nothing_yet}
use Rattle.ms_event.proofs.Traces.{front_is_accepted}
use Rattle.ms_event.proofs.laws.prefixes_are_accepted.Goals as goal

pub returns : goal.returns
returns c = λ capacity es fs h. front_is_accepted capacity nothing_yet es fs h
