use Rattle.ms_monitor.proofs.Written.{written_is_read}
use Rattle.ms_monitor.proofs.laws.written_traces_are_read.Goals as goal

pub returns : goal.returns
returns c = written_is_read
