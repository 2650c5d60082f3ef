use Rattle.std.proofs.Common.{arith}
use Rattle.ms_valid.proofs.OneInstr.{constant_of_one}
use Rattle.ms_valid.proofs.constants.is_constant.Goals as goal

pub returns-in-len1 : goal.returns-in-len1
returns-in-len1 c =
    constant_of_one c.args.globals.now c.args.ty c.args.code.now c.sequence.result.now c.instr-item.result c.is_constant_instr.result
    (omega arith) c.sequence.ensures.instrs (omega arith) (omega arith) c.instr-item.is c.is_constant_instr.ensures
