use Rattle.std.proofs.Common.{sym, ◌∙◌}
use Rattle.ms_valid.proofs.Parts.{invokes}
use Rattle.ms_valid.proofs.calls.invoke.Goals as goal

pub returns : goal.returns
returns c = invokes c.args.func.now c.as_slice-2.result.now c.in-Some.ty c.as_slice-2.ensures (sym c.as_slice.ensures ∙ c.in-Some.ensures) c.if-not-take_params.ensures c.in_ok-give_result.ensures
