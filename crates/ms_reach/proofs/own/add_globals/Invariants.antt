use Rattle.std.proofs.Common.{take}
use Rattle.std.specs.List.{flat_map}
use Rattle.ms_reach.specs.refinement.Closing.{Gathers}
use Rattle.ms_reach.specs.refinement.OwnValues.{value_at}
use Rattle.ms_reach.proofs.own.add_globals.Given as goal

abbrev pub invariant-loop-i : goal.invariant-loop-i
invariant-loop-i l = Gathers l.live (flat_map (value_at l.globals) (take l.i l.addresses)) l.fn.closing l.closing
