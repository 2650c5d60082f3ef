use Rattle.std.proofs.Common.{◌≡◌, drop, map}
use Rattle.ms_machine.specs.Linked.{put_fills}
use Rattle.ms_link.specs.refinement.Fitting.{byte_count}
use Rattle.ms_link.proofs.putting.put_fills.Given as goal

abbrev pub invariant-loop-f : goal.invariant-loop-f
invariant-loop-f l = (put_fills l.globals l.instance (drop l.f-index l.fills) l.memories ≡ put_fills l.globals l.instance l.fills l.initial.memories)
    × (map byte_count l.memories ≡ map byte_count l.initial.memories)
