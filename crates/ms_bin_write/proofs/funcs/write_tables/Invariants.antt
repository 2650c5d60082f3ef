use Rattle.std.proofs.Common.{◌≡◌, ◌++◌, drop}
use Rattle.std.specs.List.{flat_map}
use Rattle.ms_flat.specs.refinement.Ranges.{AllFit, LimitsFit}
use Rattle.ms_bin_write.specs.Types.{table_bytes}
use Rattle.ms_bin_write.proofs.funcs.write_tables.Given as goal

-- what is written and what is left are all of it
abbrev pub invariant-loop-limits : goal.invariant-loop-limits
invariant-loop-limits l = record {
  written : l.out.items ++ flat_map table_bytes (drop l.limits-index l.tables) ≡ l.initial.out.items ++ flat_map table_bytes l.tables;
  within : AllFit LimitsFit (drop l.limits-index l.tables) → AllFit LimitsFit l.tables;
}
