use Rattle.std.proofs.Common.{◌≡◌, ℕ, List, length, map, ap, subst, ◌∙◌}
use Rattle.ms_tasks.specs.refinement.Parting.{AreCounts, is_alone, part_at}
use Rattle.ms_tasks.proofs.AloneTasks.{are_apart}
use Rattle.ms_tasks.proofs.parts.apart_of.Goals as goal

pub returns : goal.returns
returns g c =
    let s = c.args.store.now in
    let addresses = c.args.addresses.now in
    let parts = c.in_ok-parts.parts.items in
    let counts = c.in_ok-counts.counts.items in
    let flags = c.in_ok-flags.flags.items in
    are_apart s addresses parts counts flags c.requires.typed c.in_ok-parts.ensures
    (c.in_ok-counts.ensures.each ∙ ap (λ (xs : List ℕ). length xs) c.as_slice.ensures.value)
    (subst (λ (ps : List ℕ). AreCounts (map (part_at s ps) addresses) counts) c.as_slice.ensures.value c.in_ok-counts.ensures.counts)
    (subst (λ (cs : List ℕ). flags ≡ map (λ a. is_alone cs (part_at s parts a)) addresses) c.as_slice-3.ensures.value
    (subst (λ (ps : List ℕ). flags ≡ map (λ a. is_alone c.as_slice-3.result.now (part_at s ps a)) addresses) c.as_slice-2.ensures.value c.in_ok-flags.ensures))
