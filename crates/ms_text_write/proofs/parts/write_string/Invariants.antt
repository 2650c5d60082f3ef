use Rattle.std.proofs.Common.{◌≡◌, ◌++◌, drop}
use Rattle.std.specs.List.{flat_map}
use Rattle.ms_text_write.specs.Parts.{byte_text}
use Rattle.ms_flat.specs.refinement.Ranges.{AllFit}
use Rattle.ms_text_write.specs.refinement.Ranges.{ByteFits}
use Rattle.ms_text_write.proofs.parts.write_string.Given as goal

-- what is written and what is left are all of it
abbrev pub invariant-loop-byte : goal.invariant-loop-byte
invariant-loop-byte l = record {
  written : l.out.items ++ flat_map byte_text (drop l.byte-index l.bytes) ≡ l.initial.out.items ++ flat_map byte_text l.bytes;
  within : AllFit ByteFits (drop l.byte-index l.bytes) → AllFit ByteFits l.bytes;
}
