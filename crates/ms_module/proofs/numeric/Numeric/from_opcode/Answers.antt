use Rattle.std.proofs.Common.{rules, tests}
use Rattle.ms_module.specs.Instructions.{numeric_rows}
use Rattle.ms_module.proofs.numeric.Numeric.from_opcode.Goals as goal

pub returns-in_default : goal.returns-in_default
unfolding numeric_rows
returns-in_default c = search (tests, rules)
