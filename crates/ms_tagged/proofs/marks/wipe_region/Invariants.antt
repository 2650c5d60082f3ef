use Rattle.std.proofs.Common.{◌≡◌, ◌-◌, ◌≤◌, length}
use Rattle.ms_tagged.specs.refinement.Granules.{IsBlank, Wipes}
use Rattle.ms_tagged.proofs.marks.wipe_region.Given as goal

abbrev pub invariant-loop-at : goal.invariant-loop-at
invariant-loop-at l = record {
  from : l.from ≤ l.at;
  to : l.at ≤ l.to;
  plain_len : length l.plain ≡ length l.fn.plain;
  masks_len : length l.masks ≡ length l.fn.masks;
  written_len : length l.written ≡ length l.fn.written;
  wipes : Wipes l.fn.plain l.fn.masks l.plain l.masks l.from l.at;
  blank : IsBlank l.plain l.masks l.written;
}

abbrev pub decreases-loop-at : goal.decreases-loop-at
decreases-loop-at l = l.to - l.at
