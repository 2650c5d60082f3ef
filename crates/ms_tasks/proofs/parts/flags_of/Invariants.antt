use Rattle.std.proofs.Common.{◌≡◌, ◌++◌, drop, map}
use Rattle.ms_tasks.specs.refinement.Parting.{is_alone, part_at}
use Rattle.ms_tasks.proofs.parts.flags_of.Given as goal

abbrev pub invariant-loop-address : goal.invariant-loop-address
invariant-loop-address g l =
    l.flags.items ++ map (λ a. is_alone l.counts (part_at l.store l.parts a)) (drop l.address-index l.addresses) ≡ map (λ a. is_alone l.counts (part_at l.store l.parts a)) l.addresses
