use Rattle.ms_bin_grammar.proofs.Wider.{wider}
use Rattle.ms_bin_grammar.proofs.laws.greater_bounds_spell_it.Goals as goal

pub returns : goal.returns
returns c = λ a b bytes m blocks room h. wider a b blocks room bytes m h
