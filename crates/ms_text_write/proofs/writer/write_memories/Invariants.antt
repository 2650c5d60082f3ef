use Rattle.std.proofs.Common.{◌≡◌, ◌++◌, drop}
use Rattle.ms_text_write.specs.Types.{memory_text}
use Rattle.ms_text_write.specs.Shown.{lead}
use Rattle.ms_text_write.specs.Parts.{behind}
use Rattle.ms_flat.specs.refinement.Ranges.{AllFit, LimitsFit}
use Rattle.ms_text_write.proofs.writer.write_memories.Given as goal

-- what is written and what is left are all of it
abbrev pub invariant-loop-limits : goal.invariant-loop-limits
invariant-loop-limits l = record {
  written : l.out.items ++ behind lead memory_text (drop l.limits-index l.memories) ≡ l.initial.out.items ++ behind lead memory_text l.memories;
  within : AllFit LimitsFit (drop l.limits-index l.memories) → AllFit LimitsFit l.memories;
}
