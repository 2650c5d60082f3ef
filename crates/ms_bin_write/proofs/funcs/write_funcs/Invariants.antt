use Rattle.std.proofs.Common.{◌≡◌, ◌++◌, drop}
use Rattle.std.specs.List.{flat_map}
use Rattle.ms_flat.specs.refinement.Ranges.{AllFit}
use Rattle.ms_bin_write.specs.refinement.Ranges.{FuncFits}
use Rattle.ms_bin_write.specs.Written.{func_bytes}
use Rattle.ms_bin_write.proofs.funcs.write_funcs.Given as goal

-- what is written and what is left are all of it
abbrev pub invariant-loop-func : goal.invariant-loop-func
invariant-loop-func l = record {
  written : l.out.items ++ flat_map func_bytes (drop l.func-index l.funcs) ≡ l.initial.out.items ++ flat_map func_bytes l.funcs;
  within : AllFit FuncFits (drop l.func-index l.funcs) → AllFit FuncFits l.funcs;
}
