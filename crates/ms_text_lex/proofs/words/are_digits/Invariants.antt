use Rattle.std.proofs.Common.{◌≡◌, true, drop}
use Rattle.ms_text_lex.specs.Words.{are_digits}
use Rattle.ms_text_lex.proofs.words.are_digits.Given as goal

abbrev pub invariant-loop-byte : goal.invariant-loop-byte
invariant-loop-byte l = are_digits l.hexadecimal l.bare (drop l.byte-index l.text) ≡ are_digits l.hexadecimal true l.text
