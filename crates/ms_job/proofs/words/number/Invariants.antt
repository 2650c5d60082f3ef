-- What the digits so far said.
use Rattle.std.proofs.Common.{◌≡◌, drop}
use Rattle.ms_job.specs.Words.{number_behind}
use Rattle.ms_job.proofs.words.number.Given as goal

-- the digits so far said the value
abbrev pub invariant-loop-byte : goal.invariant-loop-byte
invariant-loop-byte l = number_behind l.value (drop l.byte-index l.word) ≡ number_behind 0 l.word
