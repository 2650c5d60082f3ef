use Rattle.std.proofs.Common.{refl}
use Rattle.ms_module.specs.Instructions.{keywords, load_rows, numeric_rows, opcodes, opening_rows, operand_rows, second_bytes, segment_load_rows, segment_rows, segment_store_rows, store_rows, value_rows}
use Rattle.ms_module.proofs.laws.rows_are_apart.Goals as goal

pub returns-clause-opcodes : goal.returns-clause-opcodes
unfolding opcodes opening_rows operand_rows numeric_rows load_rows store_rows
returns-clause-opcodes c = refl

pub returns-clause-second_bytes : goal.returns-clause-second_bytes
unfolding second_bytes segment_rows segment_load_rows segment_store_rows
returns-clause-second_bytes c = refl

pub returns-clause-keywords : goal.returns-clause-keywords
unfolding keywords opening_rows operand_rows numeric_rows load_rows store_rows segment_rows segment_load_rows segment_store_rows value_rows
returns-clause-keywords c = refl
