-- The events so far were accepted.
use Rattle.ms_monitor.proofs.InTurn.{Follows}
use Rattle.ms_monitor.proofs.judgement.judge.Given as goal

abbrev pub invariant-loop-at : goal.invariant-loop-at
invariant-loop-at l = Follows l.capacity l.events l.at l.monitor
