use Rattle.std.proofs.Common.{◌∙◌, ◌==◌, Bool, ap, not, rules, sym}
use Rattle.std.specs.List.{filter}
use Rattle.std.proofs.lemmas.Fn.{filter_same}
use Rattle.ms_live.specs.declared.gaps.Live.{Live}
use Rattle.ms_live.specs.refinement.ByAddress.{by_address}
use Rattle.ms_live.proofs.ByAddress.{filter-by_address}
use Rattle.ms_live.proofs.list_gaps.ListGapsGaps.leave.Goals as goal

pub returns-clause-live : goal.returns-clause-live
returns-clause-live c =
    filter_same _ (λ segment. not (segment.id == c.args.id)) _ (λ segment b f' k. search rules) _ _ c.retain.ensures.filtered

pub invariant_of-self-clause-in_order : goal.invariant_of-self-clause-in_order
invariant_of-self-clause-in_order c =
    let others : Live → Bool = λ segment. not (segment.id == c.args.id) in
    filter_same _ others _ (λ segment b f' k. search rules) _ _ c.retain-2.ensures.filtered
    ∙ (ap (filter others) c.args.self.now.in_order
    ∙ (filter-by_address others c.args.self.now.live.items
    ∙ ap by_address (sym (filter_same _ others _ (λ segment b f' k. search rules) _ _ c.retain.ensures.filtered))))
