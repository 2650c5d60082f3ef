use Rattle.ms_apart.proofs.Division.{tasks_alike}
use Rattle.ms_apart.proofs.Tables.{is_linked}
use Rattle.ms_apart.proofs.laws.tasks_are_apart.Goals as goal

pub returns : goal.returns
returns c = λ modules capacity s tasks addresses crew n absent entries input linked starts is are ready apart low past quiet quiet'. tasks_alike s tasks addresses crew n absent entries input (is_linked modules capacity s linked) starts is are ready apart low past quiet quiet'
