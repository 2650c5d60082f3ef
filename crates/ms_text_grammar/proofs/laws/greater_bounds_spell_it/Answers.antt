use Rattle.ms_text_grammar.proofs.Wider.{wider}
use Rattle.ms_text_grammar.proofs.laws.greater_bounds_spell_it.Goals as goal

pub returns : goal.returns
returns c = λ a b bytes m blocks room parens h. wider a b blocks room parens bytes m h
