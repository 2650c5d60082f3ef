use Rattle.std.proofs.Common.{rules, tests, sym, ◌∙◌}
use Rattle.std.proofs.lemmas.Iterator.Search.{all_from_yields_List}
use Rattle.std.proofs.lemmas.Iterator.{YieldsList-from_slice}
use Rattle.ms_tagged.proofs.Tags.{is_zero, zeros_from-all, all_from-zeros}
use Rattle.ms_tagged.proofs.tag.are_zeros.Goals as goal

pub returns : goal.returns
returns c =
    let is = all_from_yields_List is_zero _ _ c.all.result c.all.ensures.ran (YieldsList-from_slice c.args.tags.now cc) (λ x b q k. search (rules, tests)) in
    (λ e. zeros_from-all c.args.tags.now (sym is ∙ e), λ e. is ∙ all_from-zeros c.args.tags.now e)
