use Rattle.ms_text_write.proofs.ReadNumbers.{decimal_read}
use Rattle.ms_text_write.proofs.laws.indices_are_read_back.Goals as goal

pub returns : goal.returns
returns c = decimal_read
