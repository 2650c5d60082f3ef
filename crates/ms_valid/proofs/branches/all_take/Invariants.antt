use Rattle.std.proofs.Common.{drop, ◌↔◌}
use Rattle.ms_rules.specs.Typing.{AllTake}
use Rattle.ms_valid.proofs.branches.all_take.Given as goal

abbrev pub invariant-loop-target : goal.invariant-loop-target
invariant-loop-target l = AllTake l.labels l.ty l.targets ↔ AllTake l.labels l.ty (drop l.target-index l.targets)
