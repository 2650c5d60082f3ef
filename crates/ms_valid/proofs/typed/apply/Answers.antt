use Rattle.ms_valid.proofs.Parts.{applies}
use Rattle.ms_valid.proofs.typed.apply.Goals as goal

pub returns : goal.returns
returns c = applies c.args.params.now c.args.ty c.if-not-take_params.ensures c.in_ok-give_result.ensures
