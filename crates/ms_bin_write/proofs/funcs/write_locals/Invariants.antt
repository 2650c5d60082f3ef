use Rattle.std.proofs.Common.{◌≡◌, ◌++◌, drop}
use Rattle.std.specs.List.{flat_map}
use Rattle.ms_module.specs.refinement.Locals.{Rise}
use Rattle.ms_bin_write.specs.Written.{group_bytes}
use Rattle.ms_bin_write.proofs.Groups.{counted}
use Rattle.ms_bin_write.proofs.funcs.write_locals.Given as goal

-- what is written and what is left are all of it
abbrev pub invariant-loop-run : goal.invariant-loop-run
invariant-loop-run l = record {
  written : l.out.items ++ flat_map group_bytes (counted l.from (drop l.run-index l.runs)) ≡ l.initial.out.items ++ flat_map group_bytes (counted 0 l.runs);
  rise : Rise l.from (drop l.run-index l.runs);
}
