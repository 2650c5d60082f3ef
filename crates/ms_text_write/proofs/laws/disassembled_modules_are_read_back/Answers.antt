use Rattle.ms_text_write.proofs.Disassembled.{disassembled}
use Rattle.ms_text_write.proofs.laws.disassembled_modules_are_read_back.Goals as goal

pub returns : goal.returns
returns c = disassembled
