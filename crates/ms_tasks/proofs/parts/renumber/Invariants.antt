use Rattle.std.proofs.Common.{◌≡◌, ◌++◌, drop, map, take}
use Rattle.ms_tasks.specs.refinement.Parting.{renumbered}
use Rattle.ms_tasks.proofs.parts.renumber.Given as goal

abbrev pub invariant-loop-part : goal.invariant-loop-part
invariant-loop-part l = l.parts ≡ map (renumbered l.from l.to) (take l.part-index l.fn.parts) ++ drop l.part-index l.fn.parts
