use Rattle.ms_text_grammar.proofs.Files.{file_ends, one_way}
use Rattle.ms_text_grammar.proofs.laws.fields_are_spelled_in_one_way.Goals as goal

pub returns-clause-all : goal.returns-clause-all
returns-clause-all c = λ source tokens rest fields h. file_ends source tokens fields rest h

pub returns-clause-one : goal.returns-clause-one
returns-clause-one c = λ source tokens some others h k. one_way source tokens some others h.grammar k.grammar
