use Rattle.std.proofs.Common.{◌<◌, ℕ}
use Rattle.ms_tasks.specs.refinement.Parting.{AreParts, IsWithFuncs, KeepsTogether}
use Rattle.ms_tasks.proofs.parts.join_funcs.Given as goal

abbrev pub invariant-loop-n : goal.invariant-loop-n
invariant-loop-n g l = record {
  kept : KeepsTogether l.fn.parts l.parts;
  parts : AreParts l.store l.parts;
  joins : (m : ℕ) → m < l.n → IsWithFuncs l.store l.parts m;
}
