use Rattle.std.proofs.Common.{sym, subst, ◌∙◌}
use Rattle.std.proofs.lemmas.List.{with_items_is}
use Rattle.ms_tasks.specs.refinement.Parting.{AreParts, AreWhole}
use Rattle.ms_tasks.proofs.Parting.{parts_at_first}
use Rattle.ms_tasks.proofs.parts.parts_of.Goals as goal

pub join_all-requires-clause-parts : goal.join_all-requires-clause-parts
join_all-requires-clause-parts g c =
    let s = c.args.store.now in
    let v = c.in_ok-parts.parts in
    subst (AreParts s) (sym c.as_mut_slice.ensures.value) (parts_at_first s v.items (c.in_ok-parts.ensures.len ∙ c.instance_count-count.ensures) c.in_ok-parts.ensures.each)

pub returns : goal.returns
returns g c =
    let v = c.in_ok-parts.parts in
    let new = c.join_all.new.parts in
    subst (AreWhole c.args.store.now) (sym (with_items_is v new (c.join_all.auto.parts ∙ c.as_mut_slice.ensures.len))) c.in_ok-join_all.ensures
