use Rattle.std.proofs.Common.{◌≡◌, ◌++◌, length}
use Rattle.ms_flat.specs.Flat.{flat}
use Rattle.ms_text_write.specs.Parts.{behind}
use Rattle.ms_text_write.specs.Instrs.{AllPlain, item_text}
use Rattle.ms_flat.specs.refinement.Ranges.{AllFit, ItemFits}
use Rattle.ms_text_write.proofs.body.write_body.Given as goal

-- what is written and what is left are all of it
abbrev pub invariant-loop-walk : goal.invariant-loop-walk
invariant-loop-walk l = record {
  written : l.out.items ++ behind l.lead item_text l.walk ≡ l.initial.out.items ++ behind l.lead item_text (flat l.body);
  plain : AllPlain l.walk;
  within : AllFit ItemFits l.walk → AllFit ItemFits (flat l.body);
}

abbrev pub decreases-loop-walk : goal.decreases-loop-walk
decreases-loop-walk l = length l.walk
