use Rattle.ms_event.proofs.OneText.{one_text}
use Rattle.ms_event.proofs.laws.one_text.Goals as goal

pub returns : goal.returns
returns c = one_text
