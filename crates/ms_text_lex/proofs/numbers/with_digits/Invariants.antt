use Rattle.std.proofs.Common.{◌≡◌, ◌<◌, ◌^◌, drop}
use Rattle.ms_text_lex.specs.Numbers.{with_digits}
use Rattle.ms_text_lex.proofs.numbers.with_digits.Given as goal

abbrev pub invariant-loop-byte : goal.invariant-loop-byte
invariant-loop-byte l = record {
  same : with_digits l.hexadecimal l.value (drop l.byte-index l.text) ≡ with_digits l.hexadecimal 0 l.text;
  small : l.value < 2 ^ 64;
}
