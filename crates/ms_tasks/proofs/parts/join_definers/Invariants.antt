use Rattle.std.proofs.Common.{take}
use Rattle.std.specs.List.{All}
use Rattle.ms_tasks.specs.refinement.Parting.{AreParts, IsWithFunc, KeepsTogether}
use Rattle.ms_tasks.proofs.parts.join_definers.Given as goal

abbrev pub invariant-loop-i : goal.invariant-loop-i
invariant-loop-i g l = record {
  kept : KeepsTogether l.fn.parts l.parts;
  parts : AreParts l.store l.parts;
  joins : All (IsWithFunc l.store l.parts l.n) (take l.i l.addresses);
}
