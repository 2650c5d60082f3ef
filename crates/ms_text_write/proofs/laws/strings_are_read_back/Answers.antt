use Rattle.ms_text_write.proofs.ReadStrings.{string_is_read}
use Rattle.ms_text_write.proofs.laws.strings_are_read_back.Goals as goal

pub returns : goal.returns
returns c = string_is_read
