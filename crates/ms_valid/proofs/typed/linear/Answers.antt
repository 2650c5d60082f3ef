use Rattle.std.proofs.Common.{arith, refl}
use Rattle.ms_valid.proofs.Parts.{accesses}
use Rattle.ms_valid.proofs.typed.linear.Goals as goal

pub returns : goal.returns
returns c = accesses c.args.operands.now c.apply.new.operands c.in_ok-apply.field-0 c.args.memories c.args.instr c.linear_params.result.now c.linear_result.result (omega arith) (c.if-not-is_aligned.ensures.0 refl) c.linear_params.ensures c.linear_result.ensures c.in_ok-apply.ensures
