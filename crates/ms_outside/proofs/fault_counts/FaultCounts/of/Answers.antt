use Rattle.std.proofs.Common.{ap, sym, unwrap_or, ◌∙◌}
use Rattle.ms_outside.proofs.Counts.{count_of-found}
use Rattle.ms_outside.proofs.fault_counts.FaultCounts.of.Goals as goal

pub returns : goal.returns
returns c =
    rw (← c.self.view_is) (
    c.unwrap_or.ensures
    ∙ ap (λ o. unwrap_or o 0) c.copied.ensures
    ∙ sym (count_of-found c.self.inside.counts.entries c.args.name.now _ c.get.ensures.value)
    )
