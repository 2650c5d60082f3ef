-- The bytes so far, and those that are left.
use Rattle.std.proofs.Common.{◌≡◌, ◌++◌, drop}
use Rattle.std.specs.Prelude.{flat_map}
use Rattle.ms_tagged.specs.Bytes.{range}
use Rattle.ms_run.specs.Telling.{byte_word, bytes_word}
use Rattle.ms_run.proofs.dump.dump_bytes.Given as goal

abbrev pub invariant-loop-place : goal.invariant-loop-place
invariant-loop-place g l = l.lines.items ++ flat_map byte_word (drop l.place (range l.base l.size l.segments.bytes)) ≡ l.fn.lines.items ++ bytes_word (range l.base l.size l.segments.bytes)
