use Rattle.std.proofs.Common.{◌≡◌, ◌<◌, ◌^◌, drop}
use Rattle.c_lex.specs.Numbers.{value_of}
use Rattle.c_lex.proofs.numbers.value_of.Given as goal

abbrev pub invariant-loop-byte : goal.invariant-loop-byte
invariant-loop-byte l = record {
  same : value_of l.base l.value (drop l.byte-index l.digits) ≡ value_of l.base l.first l.digits;
  small : l.value < 2 ^ 64;
}
