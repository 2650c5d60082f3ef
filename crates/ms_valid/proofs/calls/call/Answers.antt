use Rattle.ms_valid.proofs.Parts.{calls}
use Rattle.ms_valid.proofs.calls.call.Goals as goal

pub returns : goal.returns
returns c = calls c.args.operands.now c.invoke.new.operands c.in_ok-invoke.field-0 _ c.in-Some.func.now c.in-Some.ensures c.in_ok-invoke.ensures
