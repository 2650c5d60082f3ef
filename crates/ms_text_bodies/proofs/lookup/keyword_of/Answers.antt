use Rattle.std.proofs.Common.{◌≡◌, ℕ, List, subst, Option}
use Rattle.ms_module.specs.Instructions.{by_word}
use Rattle.ms_text_grammar.specs.Instructions.{Form_}
use Rattle.ms_text_bodies.specs.refinement.Classes.{Finds, rows_in}
use Rattle.ms_text_bodies.proofs.Narrow.{found}
use Rattle.ms_text_bodies.proofs.lookup.keyword_of.Goals as goal

pub returns : goal.returns
returns c =
    let text = c.args.text.now in
    let h = rw c.class_of.ensures.is at c.in_class.ensures in
    subst (λ (o : Option Form_). Finds c.in_class.result o) (found text) h
