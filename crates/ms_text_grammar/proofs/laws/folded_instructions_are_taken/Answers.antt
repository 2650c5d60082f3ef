use Rattle.ms_text_grammar.proofs.Folds.{body_taken, folded_taken}
use Rattle.ms_text_grammar.proofs.Trees.{body_is_tree, offset_is_tree}
use Rattle.ms_text_grammar.proofs.laws.folded_instructions_are_taken.Goals as goal

pub returns-clause-bodies : goal.returns-clause-bodies
returns-clause-bodies c = λ source most uses tokens rest ops h closed. body_taken source most h closed

pub returns-clause-offsets : goal.returns-clause-offsets
returns-clause-offsets c = λ source most uses tokens rest ops h. folded_taken source most h

pub returns-clause-trees : goal.returns-clause-trees
returns-clause-trees c = λ source most tokens rest b h. body_is_tree source most tokens b rest h

pub returns-clause-offset_trees : goal.returns-clause-offset_trees
returns-clause-offset_trees c = λ source most tokens rest b h. offset_is_tree source most tokens b rest h
