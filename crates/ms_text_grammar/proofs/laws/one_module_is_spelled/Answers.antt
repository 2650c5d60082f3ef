use Rattle.ms_text_grammar.proofs.Wider.{one_spelled}
use Rattle.ms_text_grammar.proofs.laws.one_module_is_spelled.Goals as goal

pub returns : goal.returns
returns c = λ a b bytes m n h k. one_spelled a b bytes m n h k
