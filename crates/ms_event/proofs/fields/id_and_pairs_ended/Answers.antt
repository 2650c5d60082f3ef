use Rattle.ms_event.proofs.Endings.{ended_fails, ended_reads}
use Rattle.ms_event.proofs.fields.id_and_pairs_ended.Goals as goal

pub returns-in_err-id : goal.returns-in_err-id
returns-in_err-id c = rw c.from_residual.ensures (ended_fails _ _ _ c.ended-sealed.ensures.only c.in_err-id.ensures)

pub returns : goal.returns
returns c = ended_reads _ _ _ c.in_ok-id.id c.in_ok-id.first c.in_ok-id.second c.ended-sealed.ensures.found c.ended-sealed.ensures.only c.in_ok-id.ensures
