use Rattle.std.proofs.Common.{◌≡◌, drop, map}
use Rattle.ms_machine.specs.Linked.{put_all_elements}
use Rattle.ms_link.specs.refinement.Fitting.{entry_count}
use Rattle.ms_link.proofs.putting.put_all_elements.Given as goal

abbrev pub invariant-loop-k : goal.invariant-loop-k
invariant-loop-k l =
    (put_all_elements l.funcs l.globals (drop l.k l.instances) (drop l.k l.elements) l.tables ≡ put_all_elements l.funcs l.globals l.instances l.elements l.initial.tables)
    × (map entry_count l.tables ≡ map entry_count l.initial.tables)
