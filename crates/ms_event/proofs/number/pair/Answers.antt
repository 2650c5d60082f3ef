use Rattle.ms_event.specs.Text.{IsWord}
use Rattle.ms_event.proofs.Numbers.{reads_half_pair, reads_no_pair, reads_pair}
use Rattle.ms_event.proofs.number.pair.Goals as goal

pub returns-in_err-first : goal.returns-in_err-first
returns-in_err-first c = rw c.from_residual.ensures (reads_no_pair IsWord _ _ c.in_err-first.ensures)

pub returns-in_err-second : goal.returns-in_err-second
returns-in_err-second c = rw c.from_residual-in_err-second.ensures (reads_half_pair IsWord _ c.word.new.left.left _ c.in_ok-first.first c.in_ok-first.ensures c.in_err-second.ensures)

pub returns : goal.returns
returns c = reads_pair IsWord _ c.word.new.left.left _ c.in_ok-first.first c.in_ok-second.second c.in_ok-first.ensures c.in_ok-second.ensures
