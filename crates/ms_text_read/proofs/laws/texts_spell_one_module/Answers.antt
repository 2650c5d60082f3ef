use Rattle.ms_text_read.proofs.Texts.{no_reason, reasons_alike}
use Rattle.ms_text_read.proofs.laws.texts_spell_one_module.Goals as goal
use Rattle.ms_text_grammar.proofs.Files.{one_module}

pub returns : goal.returns
returns c = record { one = one_module; apart = no_reason; alike = reasons_alike }
