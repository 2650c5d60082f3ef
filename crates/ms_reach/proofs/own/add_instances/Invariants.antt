use Rattle.std.proofs.Common.{take}
use Rattle.std.specs.List.{flat_map}
use Rattle.ms_reach.specs.refinement.Closing.{Gathers}
use Rattle.ms_reach.specs.refinement.OwnValues.{values_of}
use Rattle.ms_reach.proofs.own.add_instances.Given as goal

abbrev pub invariant-loop-i : goal.invariant-loop-i
invariant-loop-i g l = Gathers l.live (flat_map (values_of l.store) (take l.i l.set)) l.fn.closing l.closing
