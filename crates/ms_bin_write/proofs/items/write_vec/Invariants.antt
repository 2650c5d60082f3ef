use Rattle.std.proofs.Common.{◌≡◌, ◌++◌, drop}
use Rattle.std.specs.List.{flat_map}
use Rattle.ms_flat.specs.refinement.Ranges.{AllFit}
use Rattle.ms_bin_write.proofs.items.write_vec.Given as goal

-- what is written and what is left are all of it
abbrev pub invariant-loop-item : goal.invariant-loop-item
invariant-loop-item g l = record {
  written : l.out.items ++ flat_map g.T.Item.bytes (drop l.item-index l.items) ≡ l.initial.out.items ++ flat_map g.T.Item.bytes l.items;
  within : AllFit g.T.Item.fits (drop l.item-index l.items) → AllFit g.T.Item.fits l.items;
}
