use Rattle.std.proofs.Common.{◌∙◌, ap, ℕ, List}
use Rattle.ms_text_grammar.specs.Identifiers.{found}
use Rattle.ms_text_names.specs.refinement.Spaces.{Entries, first_of}
use Rattle.ms_text_names.proofs.Firsts.{found_first}
use Rattle.ms_text_names.proofs.space.Space.find.Goals as goal

pub returns : goal.returns
returns c =
    let source = c.self.inside.source.now in
    let ids = c.self.inside.ids.items in
    c.copied.ensures ∙ c.get.ensures.value ∙ c.self.invariant c.text_of.result ∙ ap (λ (text : List ℕ). first_of source ids text 0) c.text_of.ensures
    ∙ found_first source ids c.args.id 0 ∙ ap (λ (s : Entries). found s.source s.ids c.args.id 0) c.self.view_is
