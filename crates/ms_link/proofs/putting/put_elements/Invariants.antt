use Rattle.std.proofs.Common.{◌≡◌, drop, map}
use Rattle.ms_machine.specs.Linked.{put_elements}
use Rattle.ms_link.specs.refinement.Fitting.{entry_count}
use Rattle.ms_link.proofs.putting.put_elements.Given as goal

abbrev pub invariant-loop-e : goal.invariant-loop-e
invariant-loop-e l = (put_elements l.funcs l.globals l.instance (drop l.e-index l.elements) l.tables ≡ put_elements l.funcs l.globals l.instance l.elements l.initial.tables)
    × (map entry_count l.tables ≡ map entry_count l.initial.tables)
