use Rattle.std.proofs.Common.{◌≡◌, ◌++◌, length}
use Rattle.std.specs.List.{flat_map}
use Rattle.ms_flat.specs.Flat.{flat}
use Rattle.ms_flat.specs.refinement.Ranges.{AllFit, ItemFits}
use Rattle.ms_bin_write.specs.Instrs.{item_bytes}
use Rattle.ms_bin_write.proofs.body.CodeItem.write.Given as goal

-- what is written and what is left are all of it
abbrev pub invariant-loop-walk : goal.invariant-loop-walk
invariant-loop-walk l = record {
  written : l.out.items ++ flat_map item_bytes l.walk ≡ l.initial.out.items ++ flat_map item_bytes (flat l.self);
  within : AllFit ItemFits l.walk → AllFit ItemFits (flat l.self);
}

abbrev pub decreases-loop-walk : goal.decreases-loop-walk
decreases-loop-walk l = length l.walk
