use Rattle.std.proofs.Common.{◌≡◌, ◌<◌, ◌-◌, ◌^◌, Some, drop, length}
use Rattle.ms_tagged.specs.Bytes.{number_at}
use Rattle.ms_tagged.specs.refinement.Tags.{bytes_of}
use Rattle.ms_tagged.proofs.tag.number.Given as goal

abbrev pub invariant-loop-index : goal.invariant-loop-index
invariant-loop-index l = record {
  read : number_at (drop l.index (bytes_of l.tags)) ≡ Some l.value;
  small : l.value < 256 ^ (length l.tags - l.index);
}
