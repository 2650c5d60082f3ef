use Rattle.std.proofs.Common.{◌≡◌, ◌<◌, ◌+◌, ◌-◌, ◌^◌, Some}
use Rattle.ms_tagged.specs.Bytes.{number_at, range}
use Rattle.ms_tagged.proofs.granules.Granules.number.Given as goal

abbrev pub invariant-loop-index : goal.invariant-loop-index
invariant-loop-index l = record {
  read : number_at (range (l.from + l.index) (l.width - l.index) l.self) ≡ Some l.value;
  small : l.value < 256 ^ (l.width - l.index);
}
