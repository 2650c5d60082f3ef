use Rattle.std.proofs.Common.{◌≡◌, ◌++◌, List, ℕ, length, map}
use Rattle.std.specs.Vec.Iter.{into_iter_items, into_iter_len}
use Rattle.ms_module.specs.declared.module.Module.{Module}
use Rattle.ms_rules.specs.Modules.{AreDistinct}
use Rattle.ms_machine.specs.Linked.{all_more, nothing_made}
use Rattle.ms_link.specs.refinement.Fitting.{MadeTyped}
use Rattle.ms_link.proofs.linking.made_of.Given as goal

abbrev pub invariant-loop-name : goal.invariant-loop-name
invariant-loop-name l = (all_more (into_iter_items l.name-iterator) l.made ≡ all_more l.fn.modules.items nothing_made)
    × MadeTyped l.made
    × AreDistinct (l.made.names ++ map (λ (m : List ℕ × Module). m.0) (into_iter_items l.name-iterator))
    × (into_iter_len l.name-iterator ≡ length (into_iter_items l.name-iterator))
