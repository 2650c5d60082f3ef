use Rattle.std.proofs.Common.{◌≡◌, drop, map}
use Rattle.ms_machine.specs.Linked.{put_all_fills}
use Rattle.ms_link.specs.refinement.Fitting.{byte_count}
use Rattle.ms_link.proofs.putting.put_all_fills.Given as goal

abbrev pub invariant-loop-k : goal.invariant-loop-k
invariant-loop-k l = (put_all_fills l.globals (drop l.k l.instances) (drop l.k l.fills) l.memories ≡ put_all_fills l.globals l.instances l.fills l.initial.memories)
    × (map byte_count l.memories ≡ map byte_count l.initial.memories)
