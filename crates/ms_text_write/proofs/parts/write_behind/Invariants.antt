use Rattle.std.proofs.Common.{◌≡◌, ◌++◌, drop}
use Rattle.ms_text_write.specs.Parts.{behind}
use Rattle.ms_flat.specs.refinement.Ranges.{AllFit}
use Rattle.ms_text_write.proofs.parts.write_behind.Given as goal

-- what is written and what is left are all of it
abbrev pub invariant-loop-item : goal.invariant-loop-item
invariant-loop-item g l = record {
  written : l.out.items ++ behind l.lead g.T.Show.text (drop l.item-index l.items) ≡ l.initial.out.items ++ behind l.lead g.T.Show.text l.items;
  within : AllFit g.T.Show.fits (drop l.item-index l.items) → AllFit g.T.Show.fits l.items;
}
