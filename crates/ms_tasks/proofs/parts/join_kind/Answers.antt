use Rattle.std.proofs.Common.{List, None, Option, ℕ, length, ap, subst, ◌∙◌}
use Rattle.std.proofs.lemmas.List.{length-replicate}
use Rattle.ms_tasks.specs.refinement.Parting.{IsFirst}
use Rattle.ms_tasks.proofs.Noting.{all_alike, no_first}
use Rattle.ms_tasks.proofs.parts.join_kind.Goals as goal

pub note_all-requires-clause-firsts : goal.note_all-requires-clause-firsts
note_all-requires-clause-firsts g c = λ a k first.
    absurd (no_first c.count_of-count.result a k (subst (λ (fs : List (Option ℕ)). IsFirst fs a k) (c.as_mut_slice.ensures.value ∙ c.in_ok-firsts.ensures) first))

pub note_all-requires-clause-each : goal.note_all-requires-clause-each
note_all-requires-clause-each g c =
    let none : Option ℕ = None in
    ap (λ (fs : List (Option ℕ)). length fs) (c.as_mut_slice.ensures.value ∙ c.in_ok-firsts.ensures) ∙ (length-replicate c.count_of-count.result none ∙ c.count_of-count.ensures)

pub returns-clause-alike : goal.returns-clause-alike
returns-clause-alike g c = all_alike c.args.store.now c.args.kind c.note_all.new.firsts c.note_all.new.parts c.note_all.ensures.noted
