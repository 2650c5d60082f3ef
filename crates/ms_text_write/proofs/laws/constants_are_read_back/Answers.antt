use Rattle.ms_text_write.proofs.ReadNumbers.{constant_read, wide_constant_read}
use Rattle.ms_text_write.proofs.laws.constants_are_read_back.Goals as goal

pub returns-clause-narrow : goal.returns-clause-narrow
returns-clause-narrow c = constant_read

pub returns-clause-wide : goal.returns-clause-wide
returns-clause-wide c = wide_constant_read
